-- Expressions and statements as they are meant, with names instead of numbers.
use Rattle.std.specs.Prelude.{ℕ, List}
use Rattle.arith.specs.declared.operators.Op.{Op}
use Rattle.grammar.specs.declared.operators.StoreOp.{StoreOp}

-- -, ! or ~ before an operand
pub data Sign : Type 0 where
  Minus : Sign
  Not : Sign
  Tilde : Sign

-- ++ adds 1, -- subtracts 1
pub data Increment : Type 0 where
  Up : Increment
  Down : Increment

mutual
  -- an expression; its brackets are added when it is spelled
  pub data Expression : Type 0 where
    Constant : (value : ℕ) → Expression  -- up to 2147483647 in a source
    Variable : (name : List ℕ) → Expression
    Binary : (op : Op) (left right : Expression) → Expression
    Signed : (sign : Sign) (operand : Expression) → Expression
    Assign : (op : StoreOp) (name : List ℕ) (right : Expression) → Expression
    PreIncrement : (increment : Increment) (name : List ℕ) → Expression  -- ++x, --x
    PostIncrement : (increment : Increment) (name : List ℕ) → Expression  -- x++, x--
    Call : (name : List ℕ) (arguments : Arguments) → Expression

  -- the arguments of a call
  pub data Arguments : Type 0 where
    NoMore : Arguments
    Argument : (e : Expression) (rest : Arguments) → Arguments

mutual
  -- a statement; each body is a list of statements
  pub data Statement : Type 0 where
    Nothing : Statement  -- ;
    Evaluate : (e : Expression) → Statement  -- e;
    If : (c : Expression) (body : Statements) → Statement
    IfElse : (c : Expression) (body other : Statements) → Statement
    While : (c : Expression) (body : Statements) → Statement
    Return : Statement  -- return;
    ReturnValue : (e : Expression) → Statement  -- return e;
    Block : (body : Statements) → Statement

  -- statements one after another
  pub data Statements : Type 0 where
    Done : Statements
    Next : (s : Statement) (rest : Statements) → Statements
