pub mod BitsFit
pub mod SizeLaws
pub mod RoomLaws
pub mod GrowthLaws
pub mod VersionLaws
