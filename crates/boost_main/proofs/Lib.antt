pub mod ScriptClients
pub mod TalkingLemmas
