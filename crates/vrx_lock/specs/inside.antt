-- What the shared table holds, the rule that holds between any two steps on it, and what each step tells.
pub mod Stored
pub mod Rule
pub mod Steps
