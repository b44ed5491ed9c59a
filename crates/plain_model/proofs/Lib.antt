pub mod ByPlaces
pub mod RisingLists
pub mod Growth
pub mod RunSteps
pub mod LawLemmas
pub mod RisingKinds
pub mod Standing
pub mod ScriptSteps
