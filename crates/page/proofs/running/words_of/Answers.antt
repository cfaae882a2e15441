use Rattle.std.proofs.Common.{◌≡◌, ℕ, List, take, length, rules, refl, sym, ap, subst, arith, Bor, ◌∙◌}
use Rattle.std.specs.Prelude.{All, IsUtf8}
use Rattle.std.proofs.lemmas.Bool.Decides.{nat_tests}
use Rattle.std.proofs.lemmas.Grind.{common_steps}
use Rattle.std.proofs.lemmas.List.{length-map, take_all}
use Rattle.std.proofs.lemmas.List.Elements.{All-more}
use Rattle.page.specs.declared.robots.RobotFile.{RobotFile}
use Rattle.page.specs.Robots.{name_bytes}
use Rattle.page.proofs.running.words_of.Goals as goal

-- a robot whose name is a text
abbrev IsNamed : RobotFile → Type 0
IsNamed robot = IsUtf8 (name_bytes robot)

pub loop-robot-preserved : goal.loop-robot-preserved
loop-robot-preserved c = (
  first_of (search rules, grind (arith, common_steps)),
  search rules,
  All-more IsNamed c.args.robots.now c.loop-robot.robot-index _ c.loop-robot-test.true c.loop-robot.invariant.2
      (c.in_ok-name.ensures.no_text refl),
)

pub returns-clause-refused : goal.returns-clause-refused
returns-clause-refused c = λ _.
    let all = take_all c.loop-robot.robot-index c.args.robots.now (omega arith) in
    let same = ap length c.loop-robot.invariant.0 in
    let long : length c.loop-robot.words.items ≡ length c.args.robots.now =
    sym (length-map c.loop-robot.words.items (λ (word : Bor (List ℕ)). word.now)) ∙ same
    ∙ length-map (take c.loop-robot.robot-index c.args.robots.now) name_bytes ∙ ap length all in
    record {
      some = grind (arith, nat_tests);
      most = omega (arith, long);
      names = subst (λ (robots : List RobotFile). All IsNamed robots) all c.loop-robot.invariant.2;
    }
