pub mod ScriptAddresses
pub mod ScriptLines
pub mod ScriptPhrases
pub mod ScriptWords
pub mod ScriptOperations
pub mod WishLemmas
pub mod ReviewLemmas
pub mod ScriptSeconds
