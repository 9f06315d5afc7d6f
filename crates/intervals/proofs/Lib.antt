pub mod Comparisons
pub mod AnswerLemmas
pub mod ProductLemmas
pub mod DigitLemmas
pub mod RemainderLemmas
pub mod HullLemmas
pub mod DivisionLemmas
pub mod Soundness
