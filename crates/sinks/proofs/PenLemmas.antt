-- How a pen goes on.
use Rattle.std.proofs.Common.{◌≡◌, ℕ, ◌+◌, ◌<◌, ◌≤◌, true, false, List, [], ◌∷◌, ◌++◌, length, Result, Ok, Err, refl, sym, ap, ◌∙◌, arith, length-append}
use Rattle.std.specs.Prelude.{is_err}
use Rattle.sinks.specs.Portions.{Takes, TakesWhole, SinkState, and_portions, buffer_bytes}
use Rattle.sinks.specs.Puts.{Puts}
use Rattle.sinks.specs.Pens.{Pen, new_pen, IsBuffered, PutsSoFar, WritesSoFar}
use Rattle.sinks.proofs.PortionsLemmas.{nothing_taken, all_but_then, all_taken, none_left, front_then, all_but_more, front_more}

module _ {before now : SinkState} where
  -- a fragment goes into the buffer
  pub writes_more : (pen later : Pen) (text more : List ℕ) → PutsSoFar before now pen text
      → later.failed ≡ pen.failed → later.buffer ≡ pen.buffer ++ more → PutsSoFar before now later (text ++ more)
  writes_more pen later text more so_far same buffer = record {
    going =
        λ h. rw buffer (all_but_more before.portions now.portions text pen.buffer more (so_far.going (sym same ∙ h)));
    never_failed = λ h. so_far.never_failed (sym same ∙ h);
    stopped = λ h. front_more before.portions now.portions text more (so_far.stopped (sym same ∙ h));
    counted = λ h. so_far.counted (sym same ∙ h);
  }

  -- once a put has failed the buffer no longer matters
  pub writes_no_more : (pen later : Pen) (text more : List ℕ) → PutsSoFar before now pen text
      → pen.failed ≡ true → later.failed ≡ true → PutsSoFar before now later (text ++ more)
  writes_no_more pen later text more so_far was is = record {
    going = λ h. cc;
    never_failed = λ h. cc;
    stopped = λ h. front_more before.portions now.portions text more (so_far.stopped was);
    counted = λ h. so_far.counted was;
  }

  -- the buffer's bytes are put
  pub page_put : {T E : Type 0} (pen later : Pen) (after : SinkState) (buffer text : List ℕ)
      (put : Result T E)
      → PutsSoFar before now pen text → pen.failed ≡ false → buffer ≡ pen.buffer
      → later.failed ≡ is_err put → later.buffer ≡ []
      → Puts put now after buffer → PutsSoFar before after later text
  page_put pen later after buffer text (Ok _) so_far was same is empty puts = record {
    going =
        λ h. rw empty
        (all_but_then before.portions now.portions after.portions text buffer [] (rw same (so_far.going was))
        (none_left now.portions after.portions buffer puts.0));
    never_failed = λ h. puts.1 ∙ so_far.never_failed was;
    stopped = λ h. cc;
    counted = λ h. cc;
  }
  page_put pen later after buffer text (Err _) so_far was same is empty puts = record {
    going = λ h. cc;
    never_failed = λ h. cc;
    stopped =
        λ h. front_then before.portions now.portions after.portions text buffer (rw same (so_far.going was)) puts.0;
    counted = λ h. puts.1 ∙ ap (λ m. m + 1) (so_far.never_failed was);
  }

  -- a fragment is put while the buffer is empty
  pub fragment_put : {T E : Type 0} (pen later : Pen) (after : SinkState) (bytes text : List ℕ)
      (put : Result T E)
      → PutsSoFar before now pen text → pen.failed ≡ false → pen.buffer ≡ []
      → later.failed ≡ is_err put → later.buffer ≡ pen.buffer
      → Puts put now after bytes → PutsSoFar before after later (text ++ bytes)
  fragment_put pen later after bytes text put so_far was empty is same puts =
      let buffer : bytes ≡ pen.buffer ++ bytes = rw empty in
      page_put (record { buffer = bytes; failed = false }) later after bytes (text ++ bytes) put
      (writes_more pen (record { buffer = bytes; failed = false }) text bytes so_far (sym was) buffer) refl refl is
      (same ∙ empty) puts

  -- a text that fits the buffer is in it, and a fragment goes into the buffer
  pub kept_more : (pen later : Pen) (text more : List ℕ) → WritesSoFar before now pen text
      → later.failed ≡ pen.failed → later.buffer ≡ pen.buffer ++ more → length (text ++ more) ≤ buffer_bytes →
      IsBuffered before now later (text ++ more)
  kept_more pen later text more so_far same buffer fits =
      let less : length text ≤ buffer_bytes = omega (arith, length-append text more) in
      let on_page : IsBuffered before now pen text = so_far.kept less in
      record {
        going = same ∙ on_page.going;
        buffer = buffer ∙ ap (λ l. l ++ more) on_page.buffer;
        nothing = on_page.nothing;
      }

  -- a text with a fragment that does not fit the buffer has more bytes than the buffer
  pub too_long : (pen : Pen) (text more : List ℕ) → WritesSoFar before now pen text
      → buffer_bytes < length pen.buffer + length more → length (text ++ more) ≤ buffer_bytes → ⊥
  too_long pen text more so_far long fits =
      let less : length text ≤ buffer_bytes = omega (arith, length-append text more) in
      let on_page : IsBuffered before now pen text = so_far.kept less in
      omega (arith, length-append text more, ap length on_page.buffer)

  -- nothing is added once a put has failed
  pub nothing_more : (pen : Pen) (text more : List ℕ) → PutsSoFar before now pen text → pen.failed ≡ true
      → (length (text ++ more) ≤ buffer_bytes → ⊥) → WritesSoFar before now pen (text ++ more)
  nothing_more pen text more so_far was long =
      record { puts = writes_no_more pen pen text more so_far was was; kept = λ fits. absurd (long fits) }

  -- a pen whose put has failed has written more bytes than the buffer
  pub not_failed : (pen : Pen) (text more : List ℕ) → WritesSoFar before now pen text
      → pen.failed ≡ true → length (text ++ more) ≤ buffer_bytes → ⊥
  not_failed pen text more so_far was fits =
      let less : length text ≤ buffer_bytes = omega (arith, length-append text more) in
      let going : pen.failed ≡ false = (so_far.kept less).going in
      cc

  -- the last bytes of the buffer are put
  pub piece_put : {T E : Type 0} (pen : Pen) (after : SinkState) (buffer text : List ℕ) (put : Result T E)
      → WritesSoFar before now pen text → pen.failed ≡ false → buffer ≡ pen.buffer
      → Puts put now after buffer → Puts put before after text
  piece_put pen after buffer text (Ok _) so_far was same puts = (
    all_taken before.portions after.portions text
        (all_but_then before.portions now.portions after.portions text buffer [] (rw same (so_far.puts.going was))
        (none_left now.portions after.portions buffer puts.0)) one,
    puts.1 ∙ so_far.puts.never_failed was,
  )
    where
      one : TakesWhole before.portions → 0 < length text → length text ≤ buffer_bytes
          → after.portions ≡ and_portions before.portions (text ∷ [])
      one whole some fits =
          let on_page : IsBuffered before now pen text = so_far.kept fits in
          let whole_text : Takes before.portions after.portions text =
          rw (← on_page.nothing, ← (same ∙ on_page.buffer)) puts.0 in
          whole_text.one whole some fits
  piece_put pen after buffer text (Err _) so_far was same puts = (
    front_then before.portions now.portions after.portions text buffer (rw same (so_far.puts.going was)) puts.0,
    puts.1 ∙ ap (λ m. m + 1) (so_far.puts.never_failed was),
  )

-- a pen at its beginning has written nothing
pub writes_nothing : (pen : Pen) (now : SinkState) → pen ≡ new_pen → WritesSoFar now now pen []
writes_nothing pen now e = rw e (record {
  puts = record {
    going = λ h. nothing_taken now.portions [];
    never_failed = λ h. refl;
    stopped = λ h. cc;
    counted = λ h. cc;
  };
  kept = λ fits. record { going = refl; buffer = refl; nothing = refl };
})
