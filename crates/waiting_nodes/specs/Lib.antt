pub mod Queues
pub mod WaitingLaws
pub mod HearingLaws
pub mod RowTurnLaws
pub mod Unlike
