-- The machine: what becomes of each event, after a history of events. `Machine` puts the others together. Then what
-- the definitions come to, as laws.
pub mod History
pub mod SettingsFault
pub mod Text
pub mod Original
pub mod Verdict
pub mod Told
pub mod Standing
pub mod Deliverable
pub mod Snapshot
pub mod GivenUp
pub mod Request
pub mod KeyRequest
pub mod Machine
pub mod Reasons
pub mod Available
pub mod Answers
pub mod ReferencesPulled
pub mod Passed
pub mod PulledRise
pub mod Clock
pub mod Asking
