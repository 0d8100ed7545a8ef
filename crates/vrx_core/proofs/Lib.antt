-- The machine and its laws; the runs that stand; the engine's parts beside the machine; the engine's functions, event
-- by event; what is missing and asked for; when a keyframe is asked for; the honest call.
mod machine
mod relation
mod step
mod asking
mod honest
mod keyframes
