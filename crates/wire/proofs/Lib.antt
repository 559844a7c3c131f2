pub mod ByteLaws
pub mod ReadBackLaws
pub mod LentLaws
pub mod WriteBackLaws
