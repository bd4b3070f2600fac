pub mod Tests
pub mod Judgements
