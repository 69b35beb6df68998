pub use Rattle.problem_theory.specs.Theory
pub mod Theories
