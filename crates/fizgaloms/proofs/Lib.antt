pub mod Knowing
pub mod TicketLemmas
pub mod Trying
pub mod WorkLemmas
pub mod SecondRun
