-- The honest call: what a receiver answers if an honest network brings what an honest sender sent.
pub mod Sender
pub mod Layers
pub mod Chain
pub mod WireForm
pub mod HonestSender
pub mod Taken
pub mod Number
pub mod HonestNetwork
pub mod Ready
pub mod HonestTaken
pub mod HonestRuns
pub mod HonestCall
