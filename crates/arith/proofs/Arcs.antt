-- Whether a bearing lies in an arc, by the reaches at the arc's two ends and beside them.
use Rattle.std.proofs.Common.{◌≡◌, ◌≢◌, ℕ, ◌+◌, ◌*◌, ◌-◌, ◌%◌, ◌<◌, ◌≤◌, ◌⊎◌, inl, inr, ℤ, pos, ◌+ℤ◌, ◌≤ℤ◌, ◌<ℤ◌, int_lt, int_le, cond, nat_lt, nat_le, refl, sym, subst, ◌∙◌, Bool, true, false, ◌&&◌, arith}
use Rattle.std.proofs.lemmas.Int.{ints, by_lt_z}
use Rattle.std.proofs.lemmas.Bool.{cases_lt}
use Rattle.std.proofs.lemmas.Bool.Decides.{nat_tests}
use Rattle.arith.specs.Degree.{apart}
use Rattle.arith.specs.Bearing.{projection_of, bearing_of}
use Rattle.arith.specs.Furthest.{IsBearing, leads}
use Rattle.arith.proofs.BearingLemmas.{bearing_of-IsBearing}
use Rattle.arith.proofs.Turning.{gain, gains, some_turn, rises, falls, gains_back}

-- who leads
farther : (t : Bool) (x y : ℤ) → y <ℤ x → cond t (int_le y x) (int_lt y x) ≡ true
farther true x y h = grind (arith, ints)
farther false x y h = grind (arith, ints)

nearer : (t : Bool) (x y : ℤ) → x <ℤ y → cond t (int_le y x) (int_lt y x) ≡ false
nearer true x y h = grind (arith, ints)
nearer false x y h = grind (arith, ints)

leads_farther : (dx dy : ℤ) (degree other : ℕ) → projection_of dx dy other <ℤ projection_of dx dy degree →
    leads dx dy degree other ≡ true
unfolding leads
leads_farther dx dy degree other h =
    farther (nat_lt degree other) (projection_of dx dy degree) (projection_of dx dy other) h

trails_nearer : (dx dy : ℤ) (degree other : ℕ) → projection_of dx dy degree <ℤ projection_of dx dy other →
    leads dx dy degree other ≡ false
unfolding leads
trails_nearer dx dy degree other h =
    nearer (nat_lt degree other) (projection_of dx dy degree) (projection_of dx dy other) h

strictly : (a b : ℕ) → a ≤ b → b ≢ a → a < b
strictly a b h differs = by_order (cases_lt a b)
  where
    by_order : ((a < b) ⊎ (b ≤ a)) → a < b
    by_order (inl l) = l
    by_order (inr l) = absurd (differs (omega arith))

-- the bearing leads each other degree
bearing_leads : (dx dy : ℤ) (b other : ℕ) → IsBearing dx dy b → other < 360 → b ≢ other → leads dx dy b other ≡ true
unfolding leads
bearing_leads dx dy b other is round differs = by_order (nat_lt b other) refl
  where
    by_order : (t : Bool) → nat_lt b other ≡ t →
        cond t (int_le (projection_of dx dy other) (projection_of dx dy b))
        (int_lt (projection_of dx dy other) (projection_of dx dy b)) ≡
        true
    by_order true e = let most = is.greatest other round in grind (arith, ints)
    by_order false e =
        let at_most : other ≤ b = grind (arith, nat_tests) in
        let below : other < b = strictly other b at_most differs in
        let less = is.least other below in grind (arith, ints)

bearing_trails_none : (dx dy : ℤ) (b degree : ℕ) → IsBearing dx dy b → degree < 360 → b ≢ degree →
    leads dx dy degree b ≡ false
unfolding leads
bearing_trails_none dx dy b degree is round differs = by_order (nat_lt degree b) refl
  where
    by_order : (t : Bool) → nat_lt degree b ≡ t →
        cond t (int_le (projection_of dx dy b) (projection_of dx dy degree))
        (int_lt (projection_of dx dy b) (projection_of dx dy degree)) ≡
        false
    by_order true e =
        let below : degree < b = grind (arith, nat_tests) in
        let less = is.least degree below in grind (arith, ints)
    by_order false e = let most = is.greatest degree round in grind (arith, ints)

-- what the bearing says of the gains beside it
gain_to : (dx dy : ℤ) (b : ℕ) → IsBearing dx dy b → pos 0 ≤ℤ gain dx dy (b + 359)
gain_to dx dy b is =
    let round = is.on_the_round in
    let step = gains dx dy (b + 359) ((b + 359) % 360) b refl (omega arith) in
    let most = is.greatest ((b + 359) % 360) (omega arith) in
    omega (arith, ints)

gain_from : (dx dy : ℤ) (b : ℕ) → IsBearing dx dy b → gain dx dy (b + 359 + 1) ≤ℤ pos 0
gain_from dx dy b is =
    let round = is.on_the_round in
    let step = gains dx dy (b + 359 + 1) b ((b + 1) % 360) (omega arith) (omega arith) in
    let most = is.greatest ((b + 1) % 360) (omega arith) in
    omega (arith, ints)

-- this many degrees after the bearing, or before it, the next one leads or trails
after_trails : (dx dy : ℤ) (b s from to : ℕ) → (dx ≡ pos 0 → dy ≡ pos 0 → ⊥) → IsBearing dx dy b → 1 ≤ s → s ≤ 178 →
    from ≡ (b + s) % 360 → to ≡ (b + s + 1) % 360 → projection_of dx dy to <ℤ projection_of dx dy from
after_trails dx dy b s from to some is low high p q =
    let round = is.on_the_round in
    let less =
    falls dx dy (b + 359) (b + 360 + s) some (gain_to dx dy b is) (gain_from dx dy b is) (omega arith) (omega arith)
    in
    let step = gains dx dy (b + 360 + s) from to (omega arith) (omega arith) in
    omega (arith, ints)

before_trails : (dx dy : ℤ) (b s from to : ℕ) → (dx ≡ pos 0 → dy ≡ pos 0 → ⊥) → IsBearing dx dy b → 1 ≤ s → s ≤ 178 →
    from ≡ (b + 359 - s) % 360 → to ≡ (b + 360 - s) % 360 → projection_of dx dy from <ℤ projection_of dx dy to
before_trails dx dy b s from to some is low high p q =
    let round = is.on_the_round in
    let more =
    rises dx dy (b + 359) (b + 359 - s) some (gain_to dx dy b is) (gain_from dx dy b is) (omega arith) (omega arith)
    in
    let step = gains dx dy (b + 359 - s) from to p (omega arith) in
    omega (arith, ints)

both : (a b : Bool) → a ≡ true → b ≡ true → (a && b) ≡ true
both a b p q = rw (p, q) refl

first_fails : (a b : Bool) → a ≡ false → (a && b) ≡ false
first_fails a b p = rw p refl

second_fails : (a b : Bool) → b ≡ false → (a && b) ≡ false
second_fails true b q = q
second_fails false b q = refl

-- a degree that is the bearing, or some way from it, leads its neighbour on the far side
leads_outwards : (dx dy : ℤ) (b t at other : ℕ) → IsBearing dx dy b → other < 360 →
    (0 < t → projection_of dx dy other <ℤ projection_of dx dy at) → (t ≤ 0 → (b ≡ at) × (b ≢ other)) →
    leads dx dy at other ≡ true
leads_outwards dx dy b t at other is round some none = by_distance (cases_lt 0 t)
  where
    by_distance : ((0 < t) ⊎ (t ≤ 0)) → leads dx dy at other ≡ true
    by_distance (inl far) = leads_farther dx dy at other (some far)
    by_distance (inr near) =
        subst (λ d. leads dx dy d other ≡ true) (none near).0 (bearing_leads dx dy b other is round (none near).1)

-- a degree beside the bearing, or some way from it, trails its neighbour on the near side
trails_inwards : (dx dy : ℤ) (b t at other : ℕ) → IsBearing dx dy b → at < 360 →
    (1 < t → projection_of dx dy at <ℤ projection_of dx dy other) → (t ≤ 1 → (b ≡ other) × (b ≢ at)) →
    leads dx dy at other ≡ false
trails_inwards dx dy b t at other is round some none = by_distance (cases_lt 1 t)
  where
    by_distance : ((1 < t) ⊎ (t ≤ 1)) → leads dx dy at other ≡ false
    by_distance (inl far) = trails_nearer dx dy at other (some far)
    by_distance (inr near) =
        subst (λ d. leads dx dy at d ≡ false) (none near).0 (bearing_trails_none dx dy b at is round (none near).1)

-- an arc from a degree on that the bearing is t degrees into, and of this width
starts : (dx dy : ℤ) (b t first before : ℕ) → (dx ≡ pos 0 → dy ≡ pos 0 → ⊥) → IsBearing dx dy b → t ≤ 178 →
    first ≡ (b + 360 - t) % 360 → before ≡ (b + 359 - t) % 360 → leads dx dy first before ≡ true
starts dx dy b t first before some is near p q =
    let round = is.on_the_round in
    leads_outwards dx dy b t first before is (omega arith)
    (λ far. before_trails dx dy b t before first some is far near q p) (λ none. (omega arith, λ e. omega arith))

ends : (dx dy : ℤ) (b s last after : ℕ) → (dx ≡ pos 0 → dy ≡ pos 0 → ⊥) → IsBearing dx dy b → s ≤ 178 →
    last ≡ (b + s) % 360 → after ≡ (b + s + 1) % 360 → leads dx dy last after ≡ true
ends dx dy b s last after some is near p q =
    let round = is.on_the_round in
    leads_outwards dx dy b s last after is (omega arith)
    (λ far. after_trails dx dy b s last after some is far near p q) (λ none. (omega arith, λ e. omega arith))

-- an arc that ends u degrees before the bearing, or begins v degrees after it
ends_early : (dx dy : ℤ) (b u last after : ℕ) → (dx ≡ pos 0 → dy ≡ pos 0 → ⊥) → IsBearing dx dy b → 1 ≤ u → u ≤ 179 →
    last ≡ (b + 360 - u) % 360 → after ≡ (b + 361 - u) % 360 → leads dx dy last after ≡ false
ends_early dx dy b u last after some is low high p q =
    let round = is.on_the_round in
    trails_inwards dx dy b u last after is (omega arith)
    (λ far. before_trails dx dy b (u - 1) last after some is (omega arith) (omega arith) (omega arith) (omega arith))
    (λ near. (omega arith, λ e. omega arith))

starts_late : (dx dy : ℤ) (b v first before : ℕ) → (dx ≡ pos 0 → dy ≡ pos 0 → ⊥) → IsBearing dx dy b → 1 ≤ v → v ≤ 179 →
    first ≡ (b + v) % 360 → before ≡ (b + v - 1) % 360 → leads dx dy first before ≡ false
starts_late dx dy b v first before some is low high p q =
    let round = is.on_the_round in
    trails_inwards dx dy b v first before is (omega arith)
    (λ far. after_trails dx dy b (v - 1) before first some is (omega arith) (omega arith) (omega arith) (omega arith))
    (λ near. (omega arith, λ e. omega arith))

-- the degree just opposite doesn't lead both of those beside it
opposite_trails : (dx dy : ℤ) (b there before after : ℕ) → (dx ≡ pos 0 → dy ≡ pos 0 → ⊥) → IsBearing dx dy b →
    there ≡ (b + 180) % 360 → before ≡ (b + 179) % 360 → after ≡ (b + 181) % 360 →
    (leads dx dy there before && leads dx dy there after) ≡ false
opposite_trails dx dy b there before after some is p q r =
    by_lt_z (pos 0) (gain dx dy (b + 359))
    (λ more. first_fails (leads dx dy there before) (leads dx dy there after)
    (trails_nearer dx dy there before (omega (arith, ints, into))))
    (λ none. second_fails (leads dx dy there before) (leads dx dy there after)
    (trails_nearer dx dy there after (out none)))
  where
    round : b < 360
    round = is.on_the_round

    into : projection_of dx dy before ≡ projection_of dx dy there +ℤ gain dx dy (b + 359)
    into =
        let step = gains dx dy (b + 359 + 180) before there (omega arith) (omega arith) in
        let back = gains_back dx dy (b + 359) in
        omega (arith, ints)

    out : gain dx dy (b + 359) ≤ℤ pos 0 → projection_of dx dy there <ℤ projection_of dx dy after
    out none =
        let step = gains dx dy (b + 359 + 1 + 180) there after (omega arith) (omega arith) in
        let back = gains_back dx dy (b + 359 + 1) in
        let to = gain_to dx dy b is in
        let from = gain_from dx dy b is in
        let still : gain dx dy (b + 359) ≡ pos 0 = omega (arith, ints) in
        by_lt_z (gain dx dy (b + 359 + 1)) (pos 0) (λ less. omega (arith, ints))
        (λ more. absurd (some_turn dx dy (b + 359) some still (omega (arith, ints))))

-- the test decides whether the bearing lies in the arc
inside : (a b : ℕ) → a ≤ b → nat_le a b ≡ true
inside a b h = grind (arith, nat_tests)

outside : (a b : ℕ) → b < a → nat_le a b ≡ false
outside a b h = grind (arith, nat_tests)

decides_at : (dx dy : ℤ) (b t degree spread first before last after : ℕ) → (dx ≡ pos 0 → dy ≡ pos 0 → ⊥) →
    IsBearing dx dy b → b < 360 → t ≡ (b + 360 + spread - degree) % 360 → degree < 360 → spread < 90 →
    first ≡ (degree + 360 - spread) % 360 → before ≡ (degree + 359 - spread) % 360 → last ≡ (degree + spread) % 360 →
    after ≡ (degree + spread + 1) % 360 →
    (leads dx dy first before && leads dx dy last after) ≡ nat_le (apart b degree) spread
unfolding apart
decides_at dx dy b t degree spread first before last after some is on into round small f g l m =
    by_distance (cases_lt (2 * spread) t)
  where
    beyond : 2 * spread < t → ((179 < t - 2 * spread) ⊎ (t - 2 * spread ≤ 179)) → ((179 < 360 - t) ⊎ (360 - t ≤ 179)) →
        (leads dx dy first before && leads dx dy last after) ≡ false
    beyond h (inr near) v =
        second_fails (leads dx dy first before) (leads dx dy last after)
        (ends_early dx dy b (t - 2 * spread) last after some is (omega arith) near (omega arith) (omega arith))
    beyond h (inl wide) (inr near) =
        first_fails (leads dx dy first before) (leads dx dy last after)
        (starts_late dx dy b (360 - t) first before some is (omega arith) near (omega arith) (omega arith))
    beyond h (inl wide) (inl wider) =
        let same : first ≡ last = omega arith in
        subst (λ d. (leads dx dy first before && leads dx dy d after) ≡ false) same
        (opposite_trails dx dy b first before after some is (omega arith) (omega arith) (omega arith))

    by_distance : ((2 * spread < t) ⊎ (t ≤ 2 * spread)) →
        (leads dx dy first before && leads dx dy last after) ≡ nat_le (apart b degree) spread
    by_distance (inl h) =
        beyond h (cases_lt 179 (t - 2 * spread)) (cases_lt 179 (360 - t)) ∙
        sym (outside (apart b degree) spread (omega arith))
    by_distance (inr h) =
        both (leads dx dy first before) (leads dx dy last after)
        (starts dx dy b t first before some is (omega arith) (omega arith) (omega arith))
        (ends dx dy b (2 * spread - t) last after some is (omega arith) (omega arith) (omega arith))
        ∙ sym (inside (apart b degree) spread (omega arith))

-- the two tests together, of which the second isn't made if the first fails
pub decides_by : (dx dy : ℤ) (degree spread first before last after : ℕ) (starts_there ends_there : Bool) →
    starts_there ≡ leads dx dy first before → ends_there ≡ leads dx dy last after →
    (dx ≡ pos 0 → dy ≡ pos 0 → ⊥) → degree < 360 → spread < 90 →
    first ≡ (degree + 360 - spread) % 360 → before ≡ (degree + 359 - spread) % 360 → last ≡ (degree + spread) % 360 →
    after ≡ (degree + spread + 1) % 360 →
    (starts_there && ends_there) ≡ nat_le (apart (bearing_of dx dy) degree) spread
decides_by dx dy degree spread first before last after starts_there ends_there p q some round small f g l m =
    let is = bearing_of-IsBearing dx dy in
    let b = bearing_of dx dy in
    rw (p, q)
    (decides_at dx dy b ((b + 360 + spread - degree) % 360) degree spread first before last after some is
    is.on_the_round refl round small f g l m)
