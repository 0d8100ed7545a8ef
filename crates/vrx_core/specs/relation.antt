-- The engine as contracts see it, and the history that it stands for.
pub mod StandsFor
