-- How the items still to do lie: what belongs to a function is above its end, and functions are one after another.
use Rattle.std.proofs.Common.{◌≡◌, ℕ, ◌+◌, List, [], ◌∷◌, ◌++◌, refl, ap, subst, Bool, true, false}
use Rattle.std.specs.Prelude.{Option, Some, None, nat_lt, if◌then◌else◌}
use Rattle.tokens.specs.declared.located_tokens.Punctuator.{Punctuator}
use Rattle.tokens.specs.declared.located_tokens.Punctuator.TheVariants as punctuator
use Rattle.tokens.specs.declared.located_tokens.Token.{Token}
use Rattle.tokens.specs.declared.located_tokens.Token.TheVariants as token
use Rattle.tokens.specs.declared.located_tokens.Keyword.TheVariants as keyword
use Rattle.arith.specs.declared.operators.Op.{Op}
use Rattle.grammar.specs.declared.operators.StoreOp.{StoreOp}
use Rattle.grammar.specs.Grammar.{Symbol, Source, Types, Head, More, Parameters, ParameterTypes, FunctionBlock, Declarations, Expression, Level, Tail, Unary, Primary, Role, Defined, Called, Mentioned, Item, Exactly, AKeyword, AName, AConstant, AnEnd, Part, Make, Close, SemanticAction, Define, Production, choice, assignment_or, tail_production, unary_level}
use Rattle.grammar.specs.Operators.{operator_at, store_of}

pub data Phase : Type 0 where
  Outside : Phase  -- between functions
  Before : Phase  -- a function's definition is about to begin
  Inside : Phase  -- it has begun
  Wrong : Phase

abbrev pub inside : Phase → Phase
inside Inside = Inside
inside phase = Wrong

abbrev pub outside_then : Phase → Phase → Phase
outside_then next Outside = next
outside_then next phase = Wrong

abbrev pub begun : Phase → Phase
begun Inside = Before
begun phase = Wrong

abbrev pub by_role : Role → Phase → Phase
by_role Defined phase = begun phase
by_role Called phase = inside phase
by_role Mentioned phase = inside phase
by_role role phase = phase

abbrev pub by_more : Role → Phase → Phase
by_more Defined phase = Wrong
by_more Called phase = inside phase
by_more Mentioned phase = inside phase
by_more role phase = phase

abbrev pub by_symbol : Symbol → Phase → Phase
by_symbol Source phase = outside_then Outside phase
by_symbol Types phase = phase
by_symbol Head phase = outside_then Before phase
by_symbol (More role) phase = by_more role phase
by_symbol Parameters phase = phase
by_symbol ParameterTypes phase = phase
by_symbol FunctionBlock phase = outside_then Inside phase
by_symbol Declarations phase = phase
by_symbol symbol phase = inside phase

abbrev pub by_rule : SemanticAction → Phase → Phase
by_rule Define phase = outside_then Inside phase
by_rule rule phase = inside phase

-- the phase in which an item is in front, by that after it
abbrev pub by_item : Item → Phase → Phase
by_item (Exactly m) phase = phase
by_item (AKeyword w) phase = phase
by_item (AName role) phase = by_role role phase
by_item AConstant phase = inside phase
by_item AnEnd phase = phase
by_item (Part symbol) phase = by_symbol symbol phase
by_item (Make rule) phase = by_rule rule phase
by_item Close phase = phase

-- items over others
abbrev pub over : List Item → Phase → Phase
over [] phase = phase
over (item ∷ items) phase = by_item item (over items phase)

abbrev pub phase_of : List Item → Phase
phase_of stack = over stack Outside

pub over-append : (items stack : List Item) (phase : Phase) →
    over (items ++ stack) phase ≡ over items (over stack phase)
over-append [] stack phase = refl
over-append (item ∷ items) stack phase = ap (by_item item) (over-append items stack phase)

-- between functions it makes no difference whether one is about to begin
abbrev pub eased : Phase → Phase
eased Before = Outside
eased phase = phase

-- if nothing was wrong, the phase stays
abbrev pub Stays : Phase → Phase → Type 0
Stays Wrong after = Unit {0}
Stays Outside after = eased after ≡ Outside
Stays Before after = eased after ≡ Outside
Stays Inside after = eased after ≡ Inside

abbrev stays : Phase → Phase → Bool
stays Wrong after = true
stays Inside Inside = true
stays Inside after = false
stays phase Outside = true
stays phase Before = true
stays phase after = false

so_stays : (before after : Phase) → stays before after ≡ true → Stays before after
so_stays Wrong after e = tt
so_stays Outside Outside e = refl
so_stays Outside Before e = refl
so_stays Before Outside e = refl
so_stays Before Before e = refl
so_stays Inside Inside e = refl
so_stays phase after e = absurd (cc)

-- a production keeps its symbol's phase, whatever comes after
abbrev keeps : Symbol → Production → Phase → Bool
keeps symbol None phase = true
keeps symbol (Some items) phase = stays (by_symbol symbol phase) (over items phase)

abbrev Kept : Symbol → Production → Type 0
Kept symbol made =
    (keeps symbol made Outside ≡ true) × (keeps symbol made Before ≡ true) × (keeps symbol made Inside ≡ true)
    × (keeps symbol made Wrong ≡ true)

more_kept : (role : Role) → Kept (More role) (Some (Exactly punctuator.Comma ∷ AName role ∷ Part (More role) ∷ []))
more_kept Defined = (refl, refl, refl, refl)
more_kept role = (refl, refl, refl, refl)

no_more_kept : (role : Role) → Kept (More role) (Some [])
no_more_kept Defined = (refl, refl, refl, refl)
no_more_kept role = (refl, refl, refl, refl)

level_kept : (n : ℕ) (b : Bool) →
    Kept (Level n) (if b then Some (Part (Level (n + 1)) ∷ Part (Tail n) ∷ []) else Some (Part Unary ∷ []))
level_kept n true = (refl, refl, refl, refl)
level_kept n false = (refl, refl, refl, refl)

tail_kept : (n : ℕ) (o : Option Op) (m : Punctuator) → Kept (Tail n) (Some (tail_production n o m))
tail_kept n None m = (refl, refl, refl, refl)
tail_kept n (Some op) m = (refl, refl, refl, refl)

assignment_kept : (o : Option StoreOp) (m : Punctuator) → Kept Expression (Some (assignment_or o m))
assignment_kept None m = (refl, refl, refl, refl)
assignment_kept (Some op) m = (refl, refl, refl, refl)

head_kept : (next after : Token) → Kept Head (choice Head next after)
head_kept (token.Name name) (token.Punctuator punctuator.OpenRound) = (refl, refl, refl, refl)
head_kept next after = (refl, refl, refl, refl)

primary_kept : (next after : Token) → Kept Primary (choice Primary next after)
primary_kept (token.Name name) (token.Punctuator punctuator.OpenRound) = (refl, refl, refl, refl)
primary_kept (token.Punctuator punctuator.OpenRound) after = (refl, refl, refl, refl)
primary_kept next after = (refl, refl, refl, refl)

kept : (symbol : Symbol) (next after : Token) → Kept symbol (choice symbol next after)
kept Head next after = head_kept next after
kept (More role) (token.Punctuator punctuator.Comma) after = more_kept role
kept (More role) next after = no_more_kept role
kept Expression (token.Name name) (token.Punctuator m) = assignment_kept (store_of m) m
kept Expression next after = (refl, refl, refl, refl)
kept (Level n) next after = level_kept n (nat_lt n unary_level)
kept (Tail n) (token.Punctuator m) after = tail_kept n (operator_at n (token.Punctuator m)) m
kept (Tail n) next after = (refl, refl, refl, refl)
kept Primary next after = primary_kept next after
kept symbol (token.Punctuator punctuator.Plus) after = (refl, refl, refl, refl)
kept symbol (token.Keyword keyword.Type) after = (refl, refl, refl, refl)
kept symbol next after = (refl, refl, refl, refl)

at_phase : (symbol : Symbol) (made : Production) → Kept symbol made → (phase : Phase) → keeps symbol made phase ≡ true
at_phase symbol made h Outside = h.0
at_phase symbol made h Before = h.1
at_phase symbol made h Inside = h.2
at_phase symbol made h Wrong = h.3

pub part_stays : (symbol : Symbol) (next after : Token) (items stack : List Item) →
    choice symbol next after ≡ Some items →
    Stays (phase_of (Part symbol ∷ stack)) (phase_of (items ++ stack))
part_stays symbol next after items stack e =
    rw (over-append items stack Outside)
    (so_stays (by_symbol symbol (phase_of stack)) (over items (phase_of stack))
    (at_phase symbol (Some items) (subst (λ (made : Production). Kept symbol made) e (kept symbol next after))
    (phase_of stack)))
