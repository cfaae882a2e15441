use Rattle.std.proofs.Common.{◌≡◌, ◌+◌, ◌∙◌, ap, refl, sym}
use Rattle.std.specs.Option.{option_or}
use Rattle.watching.proofs.Playing.{seats_length}
use Rattle.watching.specs.Moments.{question_in}
use Rattle.watching.proofs.Moments.{none_asked, one_asked}
use Rattle.watching.proofs.moment.play_to.Goals as goal

pub loop-init : goal.loop-init
loop-init c = record {
  manned = c.requires.manned;
  pilots = refl;
  codes = refl;
  limit = refl;
  cycles = c.requires.begins;
  battle = λ robots s are come. come;
  asked = λ robots s are come. sym (none_asked robots c.args.robot s);
}

pub loop-preserved : goal.loop-preserved
loop-preserved c =
    let codes = c.go_on.ensures.codes ∙ c.loop.invariant.codes in
    record {
      manned = c.go_on.ensures.manned;
      pilots = sym (seats_length c.args.pilots.now c.go_on.new.pilots codes);
      codes = codes;
      limit = c.go_on.ensures.next.limit ∙ c.loop.invariant.limit;
      cycles = c.go_on.ensures.next.cycles ∙ ap (λ n. n + 1) c.loop.invariant.cycles;
      battle = λ robots s are come.
          (rw c.loop.invariant.codes at (c.go_on.ensures.battle robots s)) are
          (c.loop.invariant.battle robots s are come);
      asked = λ robots s are come.
          let now = question_in robots c.args.robot s c.loop.counter in
          let question : c.go_on.result ≡ now =
          (rw c.loop.invariant.codes at (c.go_on.ensures.asks robots s)) are
          (c.loop.invariant.battle robots s are come)
          ∙ ap (question_in robots c.args.robot s) c.loop.invariant.cycles in
          c.or-last.ensures ∙ ap (λ q. option_or q c.loop.last) question
          ∙ ap (option_or now) (c.loop.invariant.asked robots s are come)
          ∙ sym (one_asked robots c.args.robot c.loop.counter s);
    }
