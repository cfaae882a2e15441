-- The two items after the one in front.
use Rattle.std.proofs.Common.{◌≡◌, List, [], ◌∷◌, refl, sym, ap, ◌∙◌, length, take, Bool, true, false}
use Rattle.std.specs.Prelude.{◌-◌, map, Option, Some, None, option_map, if◌then◌else◌}
use Rattle.grammar.specs.Grammar as table
use Rattle.grammar.specs.Grammar.{is_lexical_error}
use Rattle.tokens.specs.declared.located_tokens.Token.{Token}
use Rattle.derivations.proofs.Moving.{first_item}
use Rattle.derivations.proofs.Turned.{turned, turned_none}
use Rattle.derivations.specs.Scheme.{blank_emitted, blank_item, known_items, origin_of}
use Rattle.derivations.specs.Positions.{origin_at}
use Rattle.derivations.specs.declared.emissions.Origin.TheVariants as origin
use Rattle.derivations.specs.Stacks.{item_in, items_of}
use Rattle.derivations.specs.Steps.{front_of}
use Rattle.derivations.specs.Table.{item_of}
use Rattle.derivations.specs.declared.symbols.Item.{Item}
use Rattle.derivations.specs.declared.steps.Pending.{Pending}

abbrev pub item_front : List Pending → Option Item
item_front stack = option_map (λ (p : Pending). p.item) (front_of stack)

abbrev pub others : List Pending → List Pending
others stack = take (length stack - 1) stack

last_known : (ys : List Pending) (o : Option Pending) → front_of ys ≡ o →
    known_items (option_map (λ (p : Pending). p.item) o ∷ []) ≡ take 1 (items_of ys)
last_known ys None e = ap (λ (l : List Pending). take 1 (items_of l)) (sym (turned_none ys e))
last_known ys (Some p) e = sym (ap (λ (l : List Pending). take 1 (map item_in l)) (turned ys p e))

both_known : (ys : List Pending) (o : Option Pending) → front_of ys ≡ o →
    known_items (option_map (λ (p : Pending). p.item) o ∷ item_front (others ys) ∷ []) ≡ take 2 (items_of ys)
both_known ys None e = ap (λ (l : List Pending). take 2 (items_of l)) (sym (turned_none ys e))
both_known ys (Some p) e =
    ap (λ (l : List table.Item). item_of p.item ∷ l) (last_known (others ys) (front_of (others ys)) refl)
    ∙ sym (ap (λ (l : List Pending). take 2 (map item_in l)) (turned ys p e))

pub two_are : (ys zs : List Pending) (a b : Option Item) → zs ≡ others ys → a ≡ item_front ys → b ≡ item_front zs →
    known_items (a ∷ b ∷ []) ≡ take 2 (items_of ys)
two_are ys zs a b e f g =
    ap (λ (x : Option Item). known_items (x ∷ b ∷ [])) f
    ∙ ap (λ (x : Option Item). known_items (item_front ys ∷ x ∷ [])) (g ∙ ap item_front e)
    ∙ both_known ys (front_of ys) refl

pub emission_is : (stack xs behind : List Pending) (p : Pending) (next : Token) → front_of stack ≡ Some p →
    xs ≡ stack → behind ≡ others xs →
    blank_emitted (item_of p.item ∷ items_of behind) next ≡ blank_emitted (items_of stack) next
emission_is stack xs behind p next e f g =
    ap (λ (l : List Pending). blank_emitted (item_of p.item ∷ items_of l) next) (g ∙ ap others f)
    ∙ sym (ap (λ (l : List table.Item). blank_emitted l next) (first_item stack p e))

pub none_emitted : (stack : List Pending) (next : Token) → front_of stack ≡ None →
    [] ≡ blank_emitted (items_of stack) next
none_emitted stack next e =
    by (is_lexical_error next)
    ∙ sym (ap (λ (l : List Pending). blank_emitted (items_of l) next) (turned_none stack e))
  where
    by : (b : Bool) → [] ≡ (if b then [] else blank_item [] next)
    by true = refl
    by false = refl

pub origin_is : (stack : List Pending) (p : Pending) → front_of stack ≡ Some p →
    origin_of (item_of p.item) ≡ origin_at (items_of stack)
origin_is stack p e = sym (ap origin_at (first_item stack p e))

pub none_origin : (stack : List Pending) → front_of stack ≡ None → origin.Next ≡ origin_at (items_of stack)
none_origin stack e = sym (ap (λ (l : List Pending). origin_at (items_of l)) (turned_none stack e))
