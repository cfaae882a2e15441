-- Sources that show the rules: their trees, their names, and for each kind of fault one that has it.
use Rattle.std.specs.Prelude.{◌≡◌, ℕ, zero, suc, ◌+◌, pos, negsuc, List, [], ◌∷◌, ◌++◌, false, Option, Some, None}
use Rattle.std.specs.Prelude.{Result, Ok, Err, codes, replicate}
use Rattle.tokens.specs.declared.located_tokens.LexicalError.{LexicalError}
use Rattle.tokens.specs.declared.located_tokens.LexicalError.TheVariants as lexical_error
use Rattle.tokens.specs.declared.located_tokens.LocatedToken.{LocatedToken}
use Rattle.tokens.specs.declared.located_tokens.Punctuator.TheVariants as punctuator
use Rattle.tokens.specs.declared.located_tokens.Token.{Token}
use Rattle.tokens.specs.declared.located_tokens.Token.TheVariants as token
use Rattle.tokens.specs.declared.located_tokens.Keyword.TheVariants as keyword
use Rattle.grammar.specs.declared.diagnostics.Code.{Code}
use Rattle.grammar.specs.declared.diagnostics.Code.TheVariants as fault_code
use Rattle.grammar.specs.declared.diagnostics.Diagnostic.{Diagnostic}
use Rattle.grammar.specs.declared.resolved_names.Callee.TheVariants as callee
use Rattle.grammar.specs.declared.resolved_names.Intrinsic.TheVariants as intrinsic
use Rattle.grammar.specs.declared.resolved_names.Var.TheVariants as var
use Rattle.arith.specs.declared.operators.Op.TheVariants as op
use Rattle.grammar.specs.declared.operators.StoreOp.TheVariants as store_op
use Rattle.grammar.specs.declared.actions.Action.{Action}
use Rattle.grammar.specs.declared.actions.Action.TheVariants.{PushConstant, FetchVariable, ApplyBinop, LogicMiddle}
use Rattle.grammar.specs.declared.actions.Action.TheVariants.{BeginCall, EndCall, IfTest, ElsePart, GiveBack, Chop}
use Rattle.grammar.specs.declared.actions.Action.TheVariants.{BeginFunction, EndFunction}
use Rattle.grammar.specs.Actions.{actions, code_length, function_actions}
use Rattle.grammar.specs.Compiled.{compiled_tokens, diagnostic}
use Rattle.grammar.specs.Beginning.{IsBeginning}
use Rattle.grammar.specs.Following.{Opened, follow_all, InFunction, AValue, Computed}
use Rattle.grammar.specs.Need.{need_tokens, built_tokens}
use Rattle.grammar.specs.Profile.{Profile}
use Rattle.grammar.specs.ProfileNumbers.{first_profile}
use Rattle.grammar.specs.Tree.{Expr, Constant, Variable, Binary, Assign, Postfix, Call, NoMore, Argument, Body, Done}
use Rattle.grammar.specs.Tree.{ExpressionStatement, IfStatement, IfElseStatement, While, Return, Function, File}

-- tokens, each on a line of its own, so that a line names a token
abbrev pub from_line : ℕ → List Token → List LocatedToken
from_line line [] = []
from_line line (t ∷ ts) = record { token = t; line = line; end = line } ∷ from_line (line + 1) ts

-- with the end after them
abbrev pub on_lines : List Token → List LocatedToken
on_lines ts = from_line 1 (ts ++ token.End ∷ [])

-- with a lexical error after them
abbrev pub broken_off : List Token → LexicalError → List LocatedToken
broken_off ts fault = from_line 1 (ts ++ token.Fault fault ∷ [])

abbrev pub letter : ℕ → Token
letter byte = token.Name (byte ∷ [])

abbrev pub a : Token
a = letter 97

abbrev pub b : Token
b = letter 98

abbrev pub c : Token
c = letter 99

abbrev pub d : Token
d = letter 100

abbrev pub f : Token
f = letter 102

abbrev pub g : Token
g = letter 103

abbrev pub x : Token
x = letter 120

abbrev pub y : Token
y = letter 121

abbrev pub main : Token
main = token.Name (codes "main")

abbrev pub scan : Token
scan = token.Name (codes "scan")

abbrev pub cannon : Token
cannon = token.Name (codes "cannon")

abbrev pub number : ℕ → Token
number n = token.Constant n

abbrev pub int : Token
int = token.Keyword keyword.Type

abbrev pub return : Token
return = token.Keyword keyword.Return

-- ( ) { } ; ,
abbrev pub ro : Token
ro = token.Punctuator punctuator.OpenRound

abbrev pub rc : Token
rc = token.Punctuator punctuator.CloseRound

abbrev pub co : Token
co = token.Punctuator punctuator.OpenCurly

abbrev pub cc : Token
cc = token.Punctuator punctuator.CloseCurly

abbrev pub end : Token
end = token.Punctuator punctuator.Semicolon

abbrev pub comma : Token
comma = token.Punctuator punctuator.Comma

abbrev pub equals : Token
equals = token.Punctuator punctuator.Equals

-- name ( ) { .. }
abbrev pub function : Token → List Token → List Token
function name body = name ∷ ro ∷ rc ∷ co ∷ (body ++ cc ∷ [])

-- main ( ) { .. }
abbrev pub in_main : List Token → List LocatedToken
in_main body = on_lines (function main body)

-- the function main, without parameters
abbrev pub main_of : List (List ℕ) → Body → Function
main_of variables body = record { name = codes "main"; parameters = 0; variables = variables; body = body }

-- a file of this function main alone
abbrev pub file_of_main : List (List ℕ) → Body → File
file_of_main variables body = record {
  externals = [];
  functions = main_of variables body ∷ [];
  order = 0 ∷ [];
  main = 0;
}

abbrev pub local : ℕ → Expr
local n = Variable (var.Local n)

abbrev pub constant : ℕ → Expr
constant n = Constant (pos n)

-- the source is this file, with this many instructions
pub record CompilesToFile (source : List LocatedToken) (file : File) (instructions : ℕ) : Type 0 where
  pub compiled : compiled_tokens first_profile source ≡ Ok file
  pub code : code_length first_profile (actions file) + 1 ≡ instructions

-- it has this fault at the token of this line
abbrev pub HasFault : List LocatedToken → ℕ → Code → Type 0
HasFault source line fault = compiled_tokens first_profile source ≡ Err (diagnostic line fault)

-- x = a+++b;
abbrev pub sum_of_postfix : List Token
sum_of_postfix = x ∷ equals ∷ a ∷ token.Punctuator punctuator.PlusPlus ∷ token.Punctuator punctuator.Plus ∷ b ∷ end ∷ []

abbrev pub sum_of_postfix_tree : Body
sum_of_postfix_tree = ExpressionStatement (Assign store_op.Set (var.Local 0)
    (Binary op.Add (Postfix store_op.Add (var.Local 1)) (local 2))) Done

-- d(x,y) int x,y; { return(x*x+y*y); } main() { d(3); }
abbrev pub square : Token → List Token
square v = v ∷ token.Punctuator punctuator.Star ∷ v ∷ []

abbrev pub distance : List Token
distance =
    d ∷ ro ∷ x ∷ comma ∷ y ∷ rc ∷ int ∷ x ∷ comma ∷ y ∷ end ∷ co
    ∷ return ∷ ro ∷ (square x ++ token.Punctuator punctuator.Plus
    ∷ (square y ++ rc ∷ end ∷ cc ∷ function main (d ∷ ro ∷ number 3 ∷ rc ∷ end ∷ [])))

abbrev pub square_tree : ℕ → Expr
square_tree n = Binary op.Multiply (local n) (local n)

abbrev pub distance_tree : Function
distance_tree = record {
  name = codes "d";
  parameters = 2;
  variables = codes "x" ∷ codes "y" ∷ [];
  body = Return (Binary op.Add (square_tree 0) (square_tree 1)) Done;
}

abbrev pub distance_file : File
distance_file = record {
  externals = [];
  functions = distance_tree ∷ main_of [] (ExpressionStatement
      (Call (callee.Function 0) (Argument (constant 3) NoMore)) Done) ∷ [];
  order = 0 ∷ 1 ∷ [];
  main = 1;
}

-- if(a) if(b) c; else d;
abbrev pub nearest_else : List Token
nearest_else =
    token.Keyword keyword.If ∷ ro ∷ a ∷ rc ∷ token.Keyword keyword.If ∷ ro ∷ b ∷ rc ∷ c ∷ end ∷
    token.Keyword keyword.Else ∷ d ∷
    end ∷ []

abbrev pub nearest_else_tree : Body
nearest_else_tree = IfStatement (local 0) (IfElseStatement (local 1) (ExpressionStatement (local 2) Done)
    (ExpressionStatement (local 3) Done) Done) Done

-- int x; f(){ x=1; return 1; } main(){ x+=f(); if(x==2) cannon(0,0); while(1); }
abbrev pub late_read : List Token
late_read =
    int ∷ x ∷ end ∷ (function f (x ∷ equals ∷ number 1 ∷ end ∷ return ∷ number 1 ∷ end ∷ []) ++ function main (
    x ∷ token.Punctuator punctuator.PlusEquals ∷ f ∷ ro ∷ rc ∷ end
    ∷ token.Keyword keyword.If ∷ ro ∷ x ∷ token.Punctuator punctuator.EqualsEquals ∷ number 2 ∷ rc ∷ cannon ∷ ro ∷
    number 0
    ∷ comma ∷ number 0 ∷ rc ∷ end
    ∷ token.Keyword keyword.While ∷ ro ∷ number 1 ∷ rc ∷ end ∷ []))

abbrev pub shot_tree : Body
shot_tree = ExpressionStatement (Call (callee.Intrinsic intrinsic.Cannon)
    (Argument (constant 0) (Argument (constant 0) NoMore))) Done

abbrev pub late_read_body : Body
late_read_body =
    ExpressionStatement (Assign store_op.Add (var.External 0) (Call (callee.Function 0) NoMore))
    (IfStatement (Binary op.Equal (Variable (var.External 0)) (constant 2)) shot_tree (While (constant 1) Done Done))

abbrev pub late_read_file : File
late_read_file = record {
  externals = codes "x" ∷ [];
  functions =
      record {
        name = codes "f";
        parameters = 0;
        variables = [];
        body = ExpressionStatement (Assign store_op.Set (var.External 0) (constant 1)) (Return (constant 1) Done);
      }
      ∷ main_of [] late_read_body ∷ [];
  order = 0 ∷ 1 ∷ [];
  main = 1;
}

-- -a; !a; ~a; ++a; --a; a--; return;
abbrev pub unary_signs : List Token
unary_signs =
    token.Punctuator punctuator.Minus ∷ a ∷ end ∷ token.Punctuator punctuator.Not ∷ a ∷ end
    ∷ token.Punctuator punctuator.Tilde ∷ a ∷ end
    ∷ token.Punctuator punctuator.PlusPlus ∷ a ∷ end ∷ token.Punctuator punctuator.MinusMinus ∷ a ∷ end ∷ a
    ∷ token.Punctuator punctuator.MinusMinus ∷ end ∷ return ∷ end ∷ []

abbrev pub unary_trees : Body
unary_trees =
    ExpressionStatement (Binary op.Subtract (constant 0) (local 0))
    (ExpressionStatement (Binary op.Equal (local 0) (constant 0))
    (ExpressionStatement (Binary op.BitXor (local 0) (Constant (negsuc 0)))
    (ExpressionStatement (Assign store_op.Add (var.Local 0) (constant 1))
    (ExpressionStatement (Assign store_op.Subtract (var.Local 0) (constant 1))
    (ExpressionStatement (Postfix store_op.Subtract (var.Local 0))
    (Return (constant 0) Done))))))

-- int x; main(){ x; { int x; x; } ; x; }: a name is what it is at its token
abbrev pub hidden_later : List Token
hidden_later = int ∷ x ∷ end ∷ function main (x ∷ end ∷ co ∷ int ∷ x ∷ end ∷ x ∷ end ∷ cc ∷ end ∷ x ∷ end ∷ [])

abbrev pub hidden_later_file : File
hidden_later_file = record {
  externals = codes "x" ∷ [];
  functions =
      main_of (codes "x" ∷ [])
      (ExpressionStatement (Variable (var.External 0))
      (ExpressionStatement (local 0) (ExpressionStatement (local 0) Done)))
      ∷ [];
  order = 0 ∷ [];
  main = 0;
}

-- main(){ g(); f(); } f(){} g(){}: numbers by first mention, the order by definition
abbrev pub defined_later : List Token
defined_later = function main (g ∷ ro ∷ rc ∷ end ∷ f ∷ ro ∷ rc ∷ end ∷ []) ++ (function f [] ++ function g [])

abbrev pub empty_function : List ℕ → Function
empty_function name = record { name = name; parameters = 0; variables = []; body = Done }

abbrev pub call_of : ℕ → Expr
call_of n = Call (callee.Function n) NoMore

abbrev pub defined_later_file : File
defined_later_file = record {
  externals = [];
  functions =
      main_of [] (ExpressionStatement (call_of 1) (ExpressionStatement (call_of 2) Done))
      ∷ empty_function (codes "g") ∷ empty_function (codes "f") ∷ [];
  order = 0 ∷ 2 ∷ 1 ∷ [];
  main = 0;
}

-- The trees of sources.
pub record KnownTrees : Type 0 where
  pub nothing : CompilesToFile (in_main []) (file_of_main [] Done) 3
  pub sum_of_postfix : CompilesToFile (in_main sum_of_postfix)
      (file_of_main (codes "x" ∷ codes "a" ∷ codes "b" ∷ []) sum_of_postfix_tree) 11
  pub distance : CompilesToFile (on_lines distance) distance_file 17
  pub nearest_else : CompilesToFile (in_main nearest_else)
      (file_of_main (codes "a" ∷ codes "b" ∷ codes "c" ∷ codes "d" ∷ []) nearest_else_tree) 13
  pub late_read : CompilesToFile (on_lines late_read) late_read_file 27
  pub unary_signs : CompilesToFile (in_main unary_signs) (file_of_main (codes "a" ∷ []) unary_trees) 28
  pub hidden_later : CompilesToFile (on_lines hidden_later) hidden_later_file 9
  pub defined_later : CompilesToFile (on_lines defined_later) defined_later_file 13

-- Tokens that don't fit.
pub record KnownMisfits : Type 0 where
  pub sum_assigned : HasFault (in_main (a ∷ token.Punctuator punctuator.Plus ∷ b ∷ equals ∷ c ∷ end ∷ [])) 8
      fault_code.SyntaxError
  pub brackets_stepped : HasFault (in_main (ro ∷ a ∷ rc ∷ token.Punctuator punctuator.PlusPlus ∷ end ∷ [])) 8
      fault_code.SyntaxError
  pub sign_stepped : HasFault (in_main (token.Punctuator punctuator.MinusMinus ∷ token.Punctuator punctuator.Minus ∷ a
      ∷ end ∷ [])) 6 fault_code.SyntaxError
  pub constant_then_name : HasFault (in_main (number 12 ∷ token.Name (codes "ab") ∷ end ∷ [])) 6 fault_code.SyntaxError
  pub late_declaration : HasFault (in_main (end ∷ int ∷ x ∷ end ∷ [])) 6 fault_code.SyntaxError
  pub unclosed : HasFault (on_lines (main ∷ ro ∷ rc ∷ co ∷ [])) 5 fault_code.SyntaxError
  pub refused_word : HasFault (in_main (token.Keyword keyword.Refused ∷ end ∷ [])) 5 fault_code.ReservedWord
  pub misplaced_word : HasFault (in_main (token.Keyword keyword.Else ∷ end ∷ [])) 5 fault_code.SyntaxError
  pub bad_character : HasFault (broken_off (main ∷ ro ∷ []) lexical_error.BadCharacter) 3 fault_code.BadCharacter
  pub comment_not_closed : HasFault (broken_off (function main []) lexical_error.CommentNotClosed) 6
      fault_code.CommentNotClosed
  pub fault_behind_a_name : HasFault (broken_off (int ∷ f ∷ []) lexical_error.NameTooLong) 3 fault_code.NameTooLong
  pub misfit_before_a_fault : HasFault (broken_off (int ∷ int ∷ end ∷ []) lexical_error.ConstantTooLarge) 3
      fault_code.SyntaxError

-- n brackets round a constant
abbrev pub bracketed : ℕ → List Token
bracketed n = replicate n ro ++ number 1 ∷ (replicate n rc ++ end ∷ [])

-- names of one byte, one after another
abbrev pub statements_of_names : ℕ → List Token
statements_of_names zero = []
statements_of_names (suc n) = letter n ∷ end ∷ statements_of_names n

abbrev pub declared_names : ℕ → List Token
declared_names zero = []
declared_names (suc n) = int ∷ letter n ∷ end ∷ declared_names n

abbrev pub calls_of_names : ℕ → List Token
calls_of_names zero = []
calls_of_names (suc n) = letter n ∷ ro ∷ rc ∷ end ∷ calls_of_names n

-- n statements `1;`
abbrev pub ones : ℕ → List Token
ones zero = []
ones (suc n) = number 1 ∷ end ∷ ones n

-- the source is a file with this many instructions
abbrev pub length_of : Result File Diagnostic → Option ℕ
length_of (Ok file) = Some (code_length first_profile (actions file) + 1)
length_of (Err d) = None

abbrev pub HasLength : List LocatedToken → ℕ → Type 0
HasLength source instructions = length_of (compiled_tokens first_profile source) ≡ Some instructions

-- the first profile with n instructions
abbrev pub limited : ℕ → Profile
limited n = record first_profile { instructions = n }

-- Faults of nesting, names and length, at the least size that has them.
pub record KnownLimits : Type 0 where
  pub deepest : compiled_tokens first_profile (in_main (bracketed 63))
      ≡ Ok (file_of_main [] (ExpressionStatement (constant 1) Done))
  pub too_deep : HasFault (in_main (bracketed 64)) 68 fault_code.NestedTooDeeply
  pub most_variables : HasLength (in_main (statements_of_names 64)) 131
  pub variables : HasFault (in_main (statements_of_names 65)) 133 fault_code.TooManyVariables
  pub most_externals : HasLength (on_lines (declared_names 64 ++ function main [])) 3
  pub externals : HasFault (on_lines (declared_names 65)) 194 fault_code.TooManyVariables
  pub most_functions : HasFault (in_main (calls_of_names 63)) 5 fault_code.FunctionNotDefined
  pub functions : HasFault (in_main (calls_of_names 64)) 257 fault_code.TooManyFunctions
  pub long : HasLength (in_main (ones 998)) 1999
  pub too_long_by_one : HasFault (in_main (ones 999)) 2003 fault_code.TooMuchCode
  pub longest : compiled_tokens (limited 3) (in_main []) ≡ Ok (file_of_main [] Done)
  pub too_long : compiled_tokens (limited 2) (in_main []) ≡ Err (diagnostic 5 fault_code.TooMuchCode)
  pub too_long_before_misfit : compiled_tokens (limited 2) (on_lines (function main [] ++ cc ∷ []))
      ≡ Err (diagnostic 5 fault_code.TooMuchCode)
  pub misfit_before_too_long : compiled_tokens (limited 2) (in_main (comma ∷ [])) ≡
      Err (diagnostic 5 fault_code.SyntaxError)

-- Faults of names, each at its name.
pub record KnownNameFaults : Type 0 where
  pub defined_twice : HasFault (on_lines (function f [] ++ function f [])) 6 fault_code.FunctionDefinedTwice
  pub mentioned_as_twice : HasFault (on_lines (function f [] ++ f ∷ end ∷ [])) 6 fault_code.FunctionDefinedTwice
  pub intrinsic_defined : HasFault (on_lines (function scan [])) 1 fault_code.IntrinsicRedefined
  pub intrinsic_alone : HasFault (on_lines (scan ∷ end ∷ [])) 1 fault_code.IntrinsicRedefined
  pub parameter_twice : HasFault (on_lines (f ∷ ro ∷ a ∷ comma ∷ a ∷ rc ∷ [])) 5 fault_code.BadParameterDeclaration
  pub no_parameter : HasFault (on_lines (f ∷ ro ∷ a ∷ rc ∷ int ∷ b ∷ end ∷ co ∷ cc ∷ [])) 6
      fault_code.BadParameterDeclaration
  pub not_defined : HasFault (in_main (f ∷ ro ∷ rc ∷ end ∷ [])) 5 fault_code.FunctionNotDefined
  pub earliest_not_defined : HasFault (in_main (g ∷ ro ∷ f ∷ ro ∷ rc ∷ rc ∷ end ∷ [])) 5 fault_code.FunctionNotDefined
  pub main_not_defined : HasFault (on_lines (function f (main ∷ ro ∷ rc ∷ end ∷ []))) 5 fault_code.FunctionNotDefined
  pub not_defined_before_no_main : HasFault (on_lines (function f (g ∷ ro ∷ rc ∷ end ∷ []))) 5
      fault_code.FunctionNotDefined
  pub no_main : HasFault (on_lines (function f [])) 6 fault_code.NoMainFunction
  pub external_main : HasFault (on_lines (int ∷ main ∷ end ∷ [])) 4 fault_code.NoMainFunction
  pub empty_source : HasFault (on_lines []) 1 fault_code.NoMainFunction

-- How far a source need be read, and what a builder has by then: here a token ends at the byte of its line.
pub record KnownNeeds : Type 0 where
  pub all : need_tokens first_profile (in_main []) ≡ 6
  pub misfit : need_tokens first_profile (in_main (token.Keyword keyword.Refused ∷ end ∷ end ∷ [])) ≡ 6
  pub last_token : need_tokens first_profile (broken_off (main ∷ ro ∷ []) lexical_error.BadCharacter) ≡ 3
  pub built : built_tokens (on_lines (function f [] ++ function main [])) 8
      ≡ function_actions 0 (empty_function (codes "f"))
  pub not_yet_built : built_tokens (on_lines (function f [] ++ function main [])) 7 ≡ []
  pub built_with_end : built_tokens (on_lines (function f [] ++ function main [])) 20
      ≡ function_actions 0 (empty_function (codes "f"))

-- what is open after these actions of a function
abbrev pub opened_by : List Action → Option Opened
opened_by acts = follow_all (BeginFunction 0 0 ∷ acts) []

-- the file's actions may follow one another, and leave nothing open
abbrev pub IsClosed : File → Type 0
IsClosed file = follow_all (actions file) [] ≡ Some []

-- n calls, each one in the arguments of the one before
abbrev pub calls_begun : ℕ → List Action
calls_begun n = replicate n BeginCall

-- What may follow what.
pub record KnownBeginnings : Type 0 where
  pub sum_of_postfix : IsClosed (file_of_main (codes "x" ∷ codes "a" ∷ codes "b" ∷ []) sum_of_postfix_tree)
  pub distance : IsClosed distance_file
  pub nearest_else : IsClosed (file_of_main (codes "a" ∷ codes "b" ∷ codes "c" ∷ codes "d" ∷ []) nearest_else_tree)
  pub late_read : IsClosed late_read_file
  pub unary_signs : IsClosed (file_of_main (codes "a" ∷ []) unary_trees)
  pub right_side : opened_by (PushConstant (pos 1) ∷ LogicMiddle op.And ∷ FetchVariable (var.Local 0)
      ∷ ApplyBinop op.And ∷ []) ≡ Some (AValue Computed ∷ InFunction 0 false ∷ [])
  pub no_right_side : opened_by (PushConstant (pos 1) ∷ LogicMiddle op.And ∷ ApplyBinop op.And ∷ []) ≡ None
  pub no_middle : opened_by (PushConstant (pos 1) ∷ PushConstant (pos 2) ∷ ApplyBinop op.And ∷ []) ≡ None
  pub value_missing : opened_by (Chop ∷ []) ≡ None
  pub value_left : opened_by (PushConstant (pos 1) ∷ PushConstant (pos 2) ∷ IfTest ∷ []) ≡ None
  pub arguments : opened_by (BeginCall ∷ PushConstant (pos 1) ∷ PushConstant (pos 2)
      ∷ EndCall (callee.Intrinsic intrinsic.Scan) ∷ []) ≡ Some (AValue Computed ∷ InFunction 0 false ∷ [])
  pub statement_in_call : opened_by (BeginCall ∷ PushConstant (pos 1) ∷ Chop ∷ []) ≡ None
  pub else_alone : opened_by (ElsePart ∷ []) ≡ None
  pub if_within_a_function : opened_by (PushConstant (pos 1) ∷ IfTest ∷ PushConstant (pos 0) ∷ GiveBack ∷ EndFunction 0
      ∷ []) ≡ None
  pub no_last_return : opened_by (PushConstant (pos 1) ∷ GiveBack ∷ EndFunction 0 ∷ []) ≡ None
  pub fewer_variables_than_parameters : follow_all (BeginFunction 0 2 ∷ PushConstant (pos 0) ∷ GiveBack
      ∷ EndFunction 1 ∷ []) [] ≡ None
  pub number_too_large : opened_by (FetchVariable (var.Local 64) ∷ []) ≡ None
  pub most_open : IsBeginning (BeginFunction 0 0 ∷ calls_begun 200)
  pub too_much_open : opened_by (calls_begun 201) ≡ None
