-- The words of the contracts of reading a question.
pub mod Operand
