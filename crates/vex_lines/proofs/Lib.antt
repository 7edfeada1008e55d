pub mod EndsLemmas
pub mod ReportLemmas
pub mod LineMachineLemmas
pub mod FeedLemmas
pub mod WrittenLines
pub mod LeastLinesLemmas
pub mod EmulateLinesLemmas
pub mod SpellingLinesLemmas
pub mod SweepLinesLemmas
pub mod NoteLinesLemmas
pub mod RunLemmas
pub mod RunClauses
pub mod Texts
pub mod ResultLineLemmas
pub mod Assembled
pub mod CountLemmas
pub mod GeneratorLemmas
mod Computed
mod ComputedCommands
