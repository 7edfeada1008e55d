pub mod WordLemmas
pub mod SetterLemmas
