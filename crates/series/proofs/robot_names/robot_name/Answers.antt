use Rattle.series.proofs.TextsLemmas.{robot_name_is}
use Rattle.series.proofs.robot_names.robot_name.Goals as goal

pub returns : goal.returns
returns c =
    rw c.file_name.ensures
    (robot_name_is (λ word. word.now) c.args.words.now c.args.robot c.min-file.result _ c.as_bytes.result.now c.requires
    c.min-file.ensures c.as_bytes.ensures.value)
