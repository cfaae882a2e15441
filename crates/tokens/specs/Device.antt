-- What is known of a device that gives bytes.
use Rattle.std.specs.Prelude.{ℕ, Bool, List, Option}

pub record FailureCount : Type 0 where
  pub device : ℕ  -- which device it is: a number that it keeps
  pub failures : ℕ  -- how often a read of it has failed

pub record Device : Type 0 where
  pub account : FailureCount
  pub to_come : Option (List ℕ)  -- the bytes still to come, if they are known
  pub ended : Bool  -- whether a read has given none
