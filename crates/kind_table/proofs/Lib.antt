pub mod OpLaws
pub mod WorkKinds
