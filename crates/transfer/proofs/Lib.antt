pub mod FillingLaws
pub mod UnreadLaws
pub mod CallLaws
