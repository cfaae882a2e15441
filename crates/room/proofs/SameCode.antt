-- Profiles that leave out right sides alike generate the same code.
use Rattle.std.specs.Prelude.{ℕ, ◌+◌, ◌≡◌, ◌==◌, List, [], ◌∷◌, ◌++◌, Bool, length, map, if◌then◌else◌}
use Rattle.std.specs.List.{range_with_len}
use Rattle.std.proofs.Common.{refl, ap, ◌∙◌}
use Rattle.grammar.specs.Profile.{Profile}
use Rattle.grammar.specs.Tree.{Expr, Constant, Variable, Binary, Assign, Postfix, Call, Args, NoMore, Argument, Body}
use Rattle.grammar.specs.Tree.{Done, ExpressionStatement, IfStatement, IfElseStatement, While, Return, File}
use Rattle.code.specs.declared.instr.Instr.TheVariants.{Store, Fcall, Retsub, Chop, Frame, Nop}
use Rattle.code.specs.Functions.{function_at}
use Rattle.code.specs.Generation.{Program, CodeAt, ◌⨾◌, only, past, either, loop, both_code, short_code, expr_code, args_code}
use Rattle.code.specs.Generation.{body_code, function_code, functions_code, last_return_code, address_in, code_of}

same_map : {A B : Type 0} (f g : A → B) (xs : List A) → ((x : A) → f x ≡ g x) → map f xs ≡ map g xs
same_map f g [] each = refl
same_map f g (x ∷ xs) each = ap (λ y. y ∷ map f xs) (each x) ∙ ap (λ ys. g x ∷ ys) (same_map f g xs each)

-- the same code, by another profile
abbrev pub by_profile : Program → Profile → Program
by_profile code q = record {
  profile = q;
  instructions = code.instructions;
  addresses = code.addresses;
  functions = code.functions;
  externals = code.externals;
  main = code.main;
}

module _ (p q : Profile) (alike : p.short_circuit ≡ q.short_circuit) where
  mutual
    same_expr : (e : Expr) → expr_code p e ≡ expr_code q e
    same_expr (Constant n) = refl
    same_expr (Variable v) = refl
    same_expr (Binary o a b) =
        ap (λ (s : Bool). if s then short_code o (expr_code p a) (expr_code p b) else both_code o (expr_code p a)
        (expr_code p b)) alike
        ∙
        ap
        (λ (c : CodeAt). if q.short_circuit then short_code o c (expr_code p b) else both_code o c (expr_code p b))
        (same_expr a)
        ∙
        ap
        (λ (c : CodeAt). if q.short_circuit then short_code o (expr_code q a) c else both_code o (expr_code q a) c)
        (same_expr b)
    same_expr (Assign o v e) = ap (λ (c : CodeAt). c ⨾ only (Store v o ∷ [])) (same_expr e)
    same_expr (Postfix o v) = refl
    same_expr (Call f arguments) =
        ap (λ (c : CodeAt). only (Frame ∷ []) ⨾ c ⨾ only (Fcall f ∷ [])) (same_args arguments)

    same_args : (arguments : Args) → args_code p arguments ≡ args_code q arguments
    same_args NoMore = refl
    same_args (Argument e rest) =
        ap (λ (c : CodeAt). c ⨾ args_code p rest) (same_expr e)
        ∙ ap (λ (c : CodeAt). expr_code q e ⨾ c) (same_args rest)

  same_body : (b : Body) → body_code p b ≡ body_code q b
  same_body Done = refl
  same_body (ExpressionStatement e rest) =
      ap (λ (c : CodeAt). c ⨾ only (Chop ∷ []) ⨾ body_code p rest) (same_expr e)
      ∙ ap (λ (c : CodeAt). expr_code q e ⨾ only (Chop ∷ []) ⨾ c) (same_body rest)
  same_body (IfStatement c s rest) =
      ap (λ (x : CodeAt). x ⨾ past (body_code p s) ⨾ body_code p rest) (same_expr c)
      ∙ ap (λ (x : CodeAt). expr_code q c ⨾ past x ⨾ body_code p rest) (same_body s)
      ∙ ap (λ (x : CodeAt). expr_code q c ⨾ past (body_code q s) ⨾ x) (same_body rest)
  same_body (IfElseStatement c s t rest) =
      ap (λ (x : CodeAt). x ⨾ either (body_code p s) (body_code p t) ⨾ body_code p rest) (same_expr c)
      ∙ ap (λ (x : CodeAt). expr_code q c ⨾ either x (body_code p t) ⨾ body_code p rest) (same_body s)
      ∙ ap (λ (x : CodeAt). expr_code q c ⨾ either (body_code q s) x ⨾ body_code p rest) (same_body t)
      ∙ ap (λ (x : CodeAt). expr_code q c ⨾ either (body_code q s) (body_code q t) ⨾ x) (same_body rest)
  same_body (While c s rest) =
      ap (λ (x : CodeAt). loop x (body_code p s) ⨾ body_code p rest) (same_expr c)
      ∙ ap (λ (x : CodeAt). loop (expr_code q c) x ⨾ body_code p rest) (same_body s)
      ∙ ap (λ (x : CodeAt). loop (expr_code q c) (body_code q s) ⨾ x) (same_body rest)
  same_body (Return e rest) =
      ap (λ (c : CodeAt). c ⨾ only (Retsub ∷ []) ⨾ body_code p rest) (same_expr e)
      ∙ ap (λ (c : CodeAt). expr_code q e ⨾ only (Retsub ∷ []) ⨾ c) (same_body rest)

  module _ (file : File) where
    same_function : (n : ℕ) → function_code p (function_at file n) ≡ function_code q (function_at file n)
    same_function n = ap (λ (c : CodeAt). c ⨾ last_return_code) (same_body (function_at file n).body)

    same_functions : (order : List ℕ) → functions_code p file order ≡ functions_code q file order
    same_functions [] = refl
    same_functions (n ∷ order) =
        ap (λ (c : CodeAt). c ⨾ functions_code p file order) (same_function n)
        ∙ ap (λ (c : CodeAt). function_code q (function_at file n) ⨾ c) (same_functions order)

    same_place : (k : ℕ) (order : List ℕ) (at : ℕ) → address_in p file k order at ≡ address_in q file k order at
    same_place k [] at = refl
    same_place k (n ∷ order) at =
        ap
        (λ (later : ℕ). if k == n then at else later)
        (same_place k order (at + length (function_code p (function_at file n) at))
        ∙
        ap (λ (c : CodeAt). address_in q file k order (at + length (c at))) (same_function n))

    pub same_code : by_profile (code_of p file) q ≡ code_of q file
    same_code =
        ap (λ (c : CodeAt). record (code_of q file) {
          instructions = c 0 ++ Nop ∷ [];
          addresses = map (λ k. address_in p file k file.order 0) (range_with_len 0 (length file.functions));
        }) (same_functions file.order)
        ∙
        ap (λ (places : List ℕ). record (code_of q file) { addresses = places })
        (same_map (λ k. address_in p file k file.order 0) (λ k. address_in q file k file.order 0)
        (range_with_len 0 (length file.functions)) (λ k. same_place k file.order 0))
