-- The order of faults, and the first of a list.
use Rattle.std.proofs.Common.{◌≡◌, ℕ, ◌<◌, ◌≤◌, ◌⊎◌, List, [], ◌∷◌, refl, sym, ap, ◌∙◌, subst, inl, inr, Bool, true, false, arith, length}
use Rattle.std.proofs.lemmas.Bool.Decides.{nat_tests}
use Rattle.std.specs.Prelude.{nat_lt, nat_le, if◌then◌else◌, Some, slice_get}
use Rattle.grammar.specs.declared.diagnostics.Code.{Code}
use Rattle.grammar.specs.declared.diagnostics.Code.TheVariants as fault_code
use Rattle.grammar.specs.Faults.{Fault, is_first, first_fault, fault_code_number}
use Rattle.grammar.specs.Laws.Parsing.{IsIn}
use Rattle.grammar.proofs.Firsts.{reflexive}
use Rattle.grammar.proofs.Indices.{some_same}

-- what the test says: fewer tokens are left at g, or as many, and the code is not larger
meaning : (a c b d : ℕ) → (if nat_lt b a then true else (if nat_lt a b then false else nat_le c d)) ≡ true →
    (b < a) ⊎ ((a ≡ b) × (c ≤ d))
meaning a c b d h = grind (arith, nat_tests)

tested : (a c b d : ℕ) → (b < a) ⊎ ((a ≡ b) × (c ≤ d)) →
    (if nat_lt b a then true else (if nat_lt a b then false else nat_le c d)) ≡ true
tested a c b d h = grind (arith, nat_tests)

total_at : (a c b d : ℕ) → (if nat_lt b a then true else (if nat_lt a b then false else nat_le c d)) ≡ false →
    (if nat_lt a b then true else (if nat_lt b a then false else nat_le d c)) ≡ true
total_at a c b d h = grind (arith, nat_tests)

before_trans : (a c b d x e : ℕ) → (b < a) ⊎ ((a ≡ b) × (c ≤ d)) → (x < b) ⊎ ((b ≡ x) × (d ≤ e)) →
    (x < a) ⊎ ((a ≡ x) × (c ≤ e))
before_trans a c b d x e (inl p) (inl q) = inl (omega arith)
before_trans a c b d x e (inl p) (inr q) = inl (omega (arith, q.0))
before_trans a c b d x e (inr p) (inl q) = inl (omega (arith, p.0))
before_trans a c b d x e (inr p) (inr q) = inr (omega (arith, p.0, q.0), omega (arith, p.1, q.1))

pub trans : (f g h : Fault) → is_first f g ≡ true → is_first g h ≡ true → is_first f h ≡ true
trans f g h p q = tested (length f.rest) (fault_code_number f.code) (length h.rest) (fault_code_number h.code)
    (before_trans _ _ (length g.rest) (fault_code_number g.code) _ _
    (meaning (length f.rest) (fault_code_number f.code) (length g.rest) (fault_code_number g.code) p)
    (meaning (length g.rest) (fault_code_number g.code) (length h.rest) (fault_code_number h.code) q))

pub total : (f g : Fault) → is_first f g ≡ false → is_first g f ≡ true
total f g h = total_at (length f.rest) (fault_code_number f.code) (length g.rest) (fault_code_number g.code) h

same_both : (a c b d : ℕ) → (b < a) ⊎ ((a ≡ b) × (c ≤ d)) → (a < b) ⊎ ((b ≡ a) × (d ≤ c)) → (a ≡ b) × (c ≡ d)
same_both a c b d (inl p) (inl q) = absurd (omega arith)
same_both a c b d (inl p) (inr q) = absurd (omega (arith, q.0))
same_both a c b d (inr p) (inl q) = absurd (omega (arith, p.0))
same_both a c b d (inr p) (inr q) = (p.0, omega (arith, p.1, q.1))

all_codes : List Code
all_codes =
    fault_code.BadCharacter ∷ fault_code.BadCharacter ∷ fault_code.CommentNotClosed ∷ fault_code.NameTooLong ∷
    fault_code.ConstantTooLarge ∷
    fault_code.SourceTooLong ∷ fault_code.SyntaxError ∷ fault_code.ReservedWord ∷ fault_code.NestedTooDeeply ∷
    fault_code.TooManyVariables ∷
    fault_code.TooManyFunctions ∷ fault_code.FunctionDefinedTwice ∷ fault_code.IntrinsicRedefined ∷
    fault_code.BadParameterDeclaration ∷
    fault_code.TooMuchCode ∷ fault_code.FunctionNotDefined ∷ fault_code.NoMainFunction ∷ []

found : (c : Code) → slice_get all_codes (fault_code_number c) ≡ Some c
unfolding all_codes
found fault_code.BadCharacter = refl
found fault_code.CommentNotClosed = refl
found fault_code.NameTooLong = refl
found fault_code.ConstantTooLarge = refl
found fault_code.SourceTooLong = refl
found fault_code.SyntaxError = refl
found fault_code.ReservedWord = refl
found fault_code.NestedTooDeeply = refl
found fault_code.TooManyVariables = refl
found fault_code.TooManyFunctions = refl
found fault_code.FunctionDefinedTwice = refl
found fault_code.IntrinsicRedefined = refl
found fault_code.BadParameterDeclaration = refl
found fault_code.TooMuchCode = refl
found fault_code.FunctionNotDefined = refl
found fault_code.NoMainFunction = refl

pub same_code : (c d : Code) → fault_code_number c ≡ fault_code_number d → c ≡ d
same_code c d e = some_same c d (sym (found c) ∙ ap (λ n. slice_get all_codes n) e ∙ found d)

-- two faults that each come first are at one token, with one code
pub same_token : (f g : Fault) → is_first f g ≡ true → is_first g f ≡ true →
    (length f.rest ≡ length g.rest) × (f.code ≡ g.code)
same_token f g p q =
    let both : (length f.rest ≡ length g.rest) × (fault_code_number f.code ≡ fault_code_number g.code) =
    same_both (length f.rest) (fault_code_number f.code) (length g.rest) (fault_code_number g.code)
    (meaning (length f.rest) (fault_code_number f.code) (length g.rest) (fault_code_number g.code) p)
    (meaning (length g.rest) (fault_code_number g.code) (length f.rest) (fault_code_number f.code) q) in
    (both.0, same_code f.code g.code both.1)

-- the first of a list is one of it
chosen_in : (b : Bool) (f g h : Fault) (faults : List Fault) → IsIn h ((if b then f else g) ∷ faults) →
    IsIn h (f ∷ g ∷ faults)
chosen_in true f g h faults (inl e) = inl e
chosen_in true f g h faults (inr k) = inr (inr k)
chosen_in false f g h faults (inl e) = inr (inl e)
chosen_in false f g h faults (inr k) = inr (inr k)

pub first_in : (f : Fault) (faults : List Fault) → IsIn (first_fault f faults) (f ∷ faults)
first_in f [] = inl refl
first_in f (g ∷ faults) = chosen_in (is_first f g) f g _ faults (first_in (if is_first f g then f else g) faults)

-- and comes before each of it
chosen_before : (b : Bool) (f g : Fault) → is_first f g ≡ b →
    (is_first (if b then f else g) f ≡ true) × (is_first (if b then f else g) g ≡ true)
chosen_before true f g e = (reflexive f, e)
chosen_before false f g e = (total f g e, reflexive g)

pub first_least : (f : Fault) (faults : List Fault) (g : Fault) → IsIn g (f ∷ faults) →
    is_first (first_fault f faults) g ≡ true
first_least f [] g (inl e) = subst (λ (x : Fault). is_first f x ≡ true) e (reflexive f)
first_least f [] g (inr h) = absurd h
first_least f (x ∷ faults) g (inl e) =
    subst (λ (y : Fault). is_first (first_fault (if is_first f x then f else x) faults) y ≡ true) e
    (trans (first_fault (if is_first f x then f else x) faults) (if is_first f x then f else x) f
    (first_least (if is_first f x then f else x) faults (if is_first f x then f else x) (inl refl))
    (chosen_before (is_first f x) f x refl).0)
first_least f (x ∷ faults) g (inr (inl e)) =
    subst (λ (y : Fault). is_first (first_fault (if is_first f x then f else x) faults) y ≡ true) e
    (trans (first_fault (if is_first f x then f else x) faults) (if is_first f x then f else x) x
    (first_least (if is_first f x then f else x) faults (if is_first f x then f else x) (inl refl))
    (chosen_before (is_first f x) f x refl).1)
first_least f (x ∷ faults) g (inr (inr h)) = first_least (if is_first f x then f else x) faults g (inr h)
