-- Numbers in columns, digit by digit.
use Rattle.std.proofs.Common.{◌≡◌, ℕ, ◌+◌, ◌-◌, ◌/◌, ◌%◌, ◌^◌, ◌<◌, ◌≤◌, List, [], ◌∷◌, ◌++◌, length, replicate, decimal, ap, ◌∙◌, sym, append_assoc, arith, rules, length-append, get_or, ◌≢◌, not, ◌==◌}
use Rattle.std.specs.List.{between, suffix_len}
use Rattle.std.proofs.lemmas.List.Sums.{suffix_len_is}
use Rattle.std.proofs.lemmas.Slice.{between_to_end}
use Rattle.std.proofs.lemmas.Bool.Decides.{nat_tests}
use Rattle.std.proofs.lemmas.Fmt.{decimal_step, decimal_digit}
use Rattle.sinks.specs.Texts.{file_name, column}

-- the last digit is a column of its own
pub column_step : (width n : ℕ) → 10 ≤ n → n < 2 ^ 64 →
    column width n ≡ column (width - 1) (n / 10) ++ ((48 + n % 10) ∷ [])
column_step width n long fits =
    let step : decimal n ≡ decimal (n / 10) ++ ((48 + n % 10) ∷ []) = decimal_step n long fits in
    let len : length (decimal n) ≡ length (decimal (n / 10)) + 1 =
    ap length step ∙ length-append (decimal (n / 10)) ((48 + n % 10) ∷ []) in
    let room : width - length (decimal n) ≡ (width - 1) - length (decimal (n / 10)) = omega arith in
    rw (room, step)
    (sym
    (append_assoc (replicate ((width - 1) - length (decimal (n / 10))) 32) (decimal (n / 10))
    ((48 + n % 10) ∷ [])))

-- one digit follows spaces
pub column_digit : (width n : ℕ) → n < 10 → column width n ≡ replicate (width - 1) 32 ++ ((48 + n) ∷ [])
column_digit width n short = rw (decimal_digit n short)

-- no byte from `start` on is a `/`, and the byte before it is one, if there is any
pub name_from : (word : List ℕ) (start : ℕ) → start ≤ length word
    → ((k : ℕ) → start ≤ k → k < length word → get_or word k 0 ≡ 47 → ⊥)
    → (0 < start → get_or word (start - 1) 0 ≡ 47) → between start (length word) word ≡ file_name word
name_from word start within none one =
    let tail : suffix_len (λ b. not (b == 47)) word ≡ length word - start =
    suffix_len_is (λ b. not (b == 47)) word start 0 within
    (λ k low high. let other : get_or word k 0 ≢ 47 = none k low high in grind (arith, nat_tests))
    (λ some. let same : get_or word (start - 1) 0 ≡ 47 = one some in grind (arith, nat_tests)) in
    let begin : length word - (length word - start) ≡ start = omega arith in
    rw (between_to_end word start (length word) (search rules), tail, begin)
