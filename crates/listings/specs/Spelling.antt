-- How a listing spells instructions.
use Rattle.std.specs.Prelude.{ℕ, List, ◌++◌, codes}
use Rattle.std.specs.Fmt.{decimal, signed_decimal}
use Rattle.tokens.specs.Punctuators.{spelling}
use Rattle.grammar.specs.Intrinsics.{intrinsic_name}
use Rattle.grammar.specs.Operators.{binary_punctuator, store_punctuator}
use Rattle.grammar.specs.declared.resolved_names.Callee.{Callee}
use Rattle.grammar.specs.declared.resolved_names.Callee.TheVariants as callee
use Rattle.grammar.specs.declared.resolved_names.Var.{Var}
use Rattle.grammar.specs.declared.resolved_names.Var.TheVariants.{External, Local}
use Rattle.code.specs.declared.instr.Instr.{Instr}
use Rattle.code.specs.declared.instr.Instr.TheVariants.{Fetch, Store, Const, Binop, Fcall, Retsub, Branch, Chop, Truth, Nop}
use Rattle.code.specs.declared.instr.Instr.TheVariants as instr

-- a variable: E and its number, or L and its number
unfoldable pub variable_text : Var → List ℕ
variable_text (External j) = codes "E" ++ decimal j
variable_text (Local j) = codes "L" ++ decimal j

-- a function's number, or an intrinsic's name
unfoldable pub callee_text : Callee → List ℕ
callee_text (callee.Function k) = decimal k
callee_text (callee.Intrinsic i) = intrinsic_name i

-- an instruction's word, and its operand if it has one
unfoldable pub instr_text : Instr → List ℕ
instr_text (Fetch v) = codes "FETCH " ++ variable_text v
instr_text (Store v o) = codes "STORE " ++ variable_text v ++ codes " " ++ spelling (store_punctuator o)
instr_text (Const value) = codes "CONST " ++ signed_decimal value
instr_text (Binop o) = codes "BINOP " ++ spelling (binary_punctuator o)
instr_text (Fcall f) = codes "FCALL " ++ callee_text f
instr_text Retsub = codes "RETSUB"
instr_text (Branch to) = codes "BRANCH " ++ decimal to
instr_text Chop = codes "CHOP"
instr_text instr.Frame = codes "FRAME"
instr_text Truth = codes "TRUTH"
instr_text Nop = codes "NOP"
