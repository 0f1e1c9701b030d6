pub mod VersionsRead
pub mod CommitFound
pub mod SlotFilled
pub mod OnceLaws
pub mod AgeLaws
pub mod RoomLaws
pub mod ReadingLaws
pub mod PassLaws
