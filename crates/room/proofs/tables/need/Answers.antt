use Rattle.std.proofs.Common.{◌≡◌, ◌∙◌, ap, sym, List, Option, ℕ, length}
use Rattle.trees.specs.Laws.{told_trees}
use Rattle.room.specs.declared.room.Room.{Room}
use Rattle.room.specs.Tables.{needs_in, table_within}
use Rattle.room.proofs.TableLaws.{need_is}
use Rattle.room.proofs.tables.need.Goals as goal

pub returns : goal.returns
returns c = λ file resolved is same.
    let made = c.args.maker.now.functions in
    let table : c.all_needs.result.needs
    ≡ table_within c.args.profile.short_circuit (told_trees made) (length made) = cc in
    ap (λ (k : ℕ). needs_in c.all_needs.result.needs k) (sym is)
    ∙ ap (λ (t : List (Option Room)). needs_in t file.main) table
    ∙ need_is c.args.profile file made resolved same
