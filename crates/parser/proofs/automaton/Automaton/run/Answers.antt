use Rattle.std.proofs.Common.{◌∙◌, refl, subst}
use Rattle.parser.specs.declared.frames.Front.{Front}
use Rattle.parser.specs.Automata.{Stands}
use Rattle.parser.proofs.Passing.{passed_on}
use Rattle.parser.proofs.AutomatonLaws.{has_more}
use Rattle.parser.proofs.automaton.Automaton.run.Goals as goal

pub loop-front-init : goal.loop-front-init
loop-front-init g c = record { moved = λ o h. h; builder = refl }

pub loop-front-preserved : goal.loop-front-preserved
loop-front-preserved g c = record {
  moved = λ o h. c.in_ok-front.ensures.moves o (c.loop-front.invariant.moved o h);
  builder = c.step.ensures.builder ∙ c.loop-front.invariant.builder;
}

pub step-requires : goal.step-requires
step-requires g c = record {
  at = record {
    start = c.requires.at.start;
    is = c.loop-front.invariant.moved c.requires.at.start c.requires.at.is;
  };
  more = has_more c.loop-front.front c.in_default.not-End;
}

pub returns-in_err-front-clause-runs : goal.returns-in_err-front-clause-runs
returns-in_err-front-clause-runs g c =
    rw (passed_on c.from_residual.result c.from_residual.ensures.1)
    (λ o h. c.in_err-front.ensures.moves o (c.loop-front.invariant.moved o h))

pub returns-in-End-clause-runs : goal.returns-in-End-clause-runs
returns-in-End-clause-runs g c = λ o h.
    subst (λ (f : Front). Stands o g.B.Build.stands f c.loop-front.self) c.in-End.is (c.loop-front.invariant.moved o h)
