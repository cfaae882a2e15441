use Rattle.std.proofs.Common.{rules, ◌∙◌, ◌<◌, ◌∷◌, [], ap, arith, length, w32}
use Rattle.std.proofs.lemmas.Int.{to_z-of_z}
use Rattle.std.proofs.lemmas.Option.{slice_get-get_or}
use Rattle.watching.specs.declared.events.Field.TheVariants.{Number}
use Rattle.watching.proofs.Hearing.{ended_told, none_ended, one_ended}
use Rattle.watching.proofs.cameras.Camera.end.Goals as goal

pub loop-robot-init : goal.loop-robot-init
loop-robot-init g c = record {
  kept = search rules;
  seen = search rules;
  heard = λ events heard.
      none_ended (g.R.Listener.heard c.args.self.now.rows) events c.args.cycle c.args.kind.now c.args.self.now.seen
      heard;
}

pub loop-robot-preserved : goal.loop-robot-preserved
loop-robot-preserved g c = record {
  kept = search rules;
  seen = search rules;
  heard = λ events heard.
      let n = c.loop-robot.robot in
      let seens = c.loop-robot.self.seen in
      let inside : n < length seens = search rules in
      let P = g.R.Listener.heard c.tell.new.self in
      one_ended P events c.args.cycle n c.args.kind.now c.args.self.now.seen
      (rw c.loop-robot.invariant.seen at
      (ended_told P _ c.args.cycle n c.args.kind.now seens _ c.end.result c.of_numbers.result
      (slice_get-get_or seens n _ inside) c.end.ensures c.of_numbers.ensures.kind
      (c.of_numbers.ensures.fields (omega arith)
      ∙ ap (λ z. Number z ∷ []) (to_z-of_z w32 c.from-damage.result (search rules) ∙ c.from-damage.ensures))
      (c.tell.ensures.heard _ (c.tell_end.ensures.heard _ (c.loop-robot.invariant.heard events heard)))));
}
