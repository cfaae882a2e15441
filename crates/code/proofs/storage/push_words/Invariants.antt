use Rattle.std.proofs.Common.{◌≡◌, ◌++◌, take}
use Rattle.code.proofs.storage.push_words.Given as goal

abbrev pub invariant-loop-word : goal.invariant-loop-word
invariant-loop-word g l = l.words.items ≡ l.initial.words.items ++ take l.word-index l.more
