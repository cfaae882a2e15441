-- A production's items are pushed, the last first.
use Rattle.std.proofs.Common.{◌≡◌, ℕ, suc, ◌+◌, ◌<◌, ◌≤◌, List, [], ◌∷◌, ◌++◌, refl, sym, ap, ◌∙◌, arith, length, take, drop}
use Rattle.std.specs.Prelude.{◌-◌, map, Some, slice_get}
use Rattle.std.proofs.Math.Seq.{drop-cons}
use Rattle.std.proofs.lemmas.Option.{get_or_from_slice_get}
use Rattle.grammar.specs.Grammar as table
use Rattle.derivations.proofs.Moving.{popped_items, popped_marks}
use Rattle.derivations.proofs.Turned.{pushed}
use Rattle.derivations.specs.Positions.{Mark}
use Rattle.derivations.specs.Stacks.{item_in, items_of, mark_in, marks_of}
use Rattle.derivations.specs.Table.{item_of}
use Rattle.derivations.specs.declared.symbols.Item.{Item}
use Rattle.derivations.specs.declared.steps.Pending.{Pending}

-- one item more, from the end
one_more : (items : List Item) (i : ℕ) (x : Item) → i < length items →
    slice_get items (length items - (i + 1)) ≡ Some x →
    drop (length items - (i + 1)) items ≡ x ∷ drop (length items - i) items
one_more items i x h e =
    let next : suc (length items - (i + 1)) ≡ length items - i = omega (arith, h) in
    let inside : length items - (i + 1) < length items = omega (arith, h) in
    drop-cons items (length items - (i + 1)) x inside
    ∙ ap (λ (y : Item). y ∷ drop (suc (length items - (i + 1))) items)
    (get_or_from_slice_get items (length items - (i + 1)) x x e)
    ∙ ap (λ (k : ℕ). x ∷ drop k items) next

pub items_grow : (items : List Item) (i : ℕ) (stack grown base : List Pending) (p : Pending) → i < length items →
    slice_get items (length items - (i + 1)) ≡ Some p.item → grown ≡ stack ++ p ∷ [] →
    items_of stack ≡ map item_of (drop (length items - i) items) ++ items_of base →
    items_of grown ≡ map item_of (drop (length items - (i + 1)) items) ++ items_of base
items_grow items i stack grown base p h e g f =
    ap (λ (l : List Pending). items_of l) g
    ∙ ap (λ (l : List Pending). map item_in l) (pushed stack p)
    ∙ ap (λ (l : List table.Item). item_in p ∷ l) f
    ∙ sym (ap (λ (l : List Item). map item_of l ++ items_of base) (one_more items i p.item h e))

pub marks_grow : (items : List Item) (i : ℕ) (stack grown base : List Pending) (p : Pending) →
    i < length items →
    slice_get items (length items - (i + 1)) ≡ Some p.item → grown ≡ stack ++ p ∷ [] →
    marks_of stack ≡ map (λ (x : Item). mark_in p) (drop (length items - i) items) ++ marks_of base →
    marks_of grown ≡ map (λ (x : Item). mark_in p) (drop (length items - (i + 1)) items) ++ marks_of base
marks_grow items i stack grown base p h e g f =
    ap (λ (l : List Pending). marks_of l) g
    ∙ ap (λ (l : List Pending). map mark_in l) (pushed stack p)
    ∙ ap (λ (l : List Mark). mark_in p ∷ l) f
    ∙ sym (ap (λ (l : List Item). map (λ (x : Item). mark_in p) l ++ marks_of base) (one_more items i p.item h e))

-- all items are pushed
pub all_pushed : (items : List Item) (i : ℕ) → length items ≤ i → drop (length items - i) items ≡ items
all_pushed items i h =
    let none : length items - i ≡ 0 = omega (arith, h) in ap (λ (k : ℕ). drop k items) none

pub same_marks : (items : List Item) (m : Mark) →
    map (λ (x : table.Item). m) (map item_of items) ≡ map (λ (x : Item). m) items
same_marks [] m = refl
same_marks (x ∷ items) m = ap (λ (l : List Mark). m ∷ l) (same_marks items m)

pub items_done : (items : List Item) (i : ℕ) (stack popped old : List Pending) (production : List table.Item) →
    length items ≤ i → map item_of items ≡ production → popped ≡ take (length old - 1) old →
    items_of stack ≡ map item_of (drop (length items - i) items) ++ items_of popped →
    items_of stack ≡ production ++ drop 1 (items_of old)
items_done items i stack popped old production h e p f =
    f ∙ ap (λ (l : List Item). map item_of l ++ items_of popped) (all_pushed items i h)
    ∙ ap (λ (l : List table.Item). l ++ items_of popped) e
    ∙ ap (λ (l : List table.Item). production ++ l) (ap (λ (l : List Pending). items_of l) p ∙ popped_items old)

pub marks_done : (items : List Item) (i : ℕ) (stack popped old : List Pending) (production : List table.Item) (m : Mark)
    →
    length items ≤ i → map item_of items ≡ production → popped ≡ take (length old - 1) old →
    marks_of stack ≡ map (λ (x : Item). m) (drop (length items - i) items) ++ marks_of popped →
    marks_of stack ≡ map (λ (x : table.Item). m) production ++ drop 1 (marks_of old)
marks_done items i stack popped old production m h e p f =
    f ∙ ap (λ (l : List Item). map (λ (x : Item). m) l ++ marks_of popped) (all_pushed items i h)
    ∙ ap (λ (l : List Mark). l ++ marks_of popped) (sym (same_marks items m))
    ∙ ap (λ (l : List table.Item). map (λ (x : table.Item). m) l ++ marks_of popped) e
    ∙ ap (λ (l : List Mark). map (λ (x : table.Item). m) production ++ l)
    (ap (λ (l : List Pending). marks_of l) p ∙ popped_marks old)
