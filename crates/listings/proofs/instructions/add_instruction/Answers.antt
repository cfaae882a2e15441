use Rattle.std.proofs.Common.{append_assoc, rules, w32, FitsSigned as SFits}
use Rattle.std.proofs.lemmas.Int.{to_z-of_z}
use Rattle.listings.specs.Spelling.{instr_text}
use Rattle.listings.proofs.instructions.add_instruction.Goals as goal

pub returns-in-Fetch-clause-text : goal.returns-in-Fetch-clause-text
unfolding instr_text
returns-in-Fetch-clause-text g c = λ before text so_far.
    rw c.in-Fetch.is
    (simp append_assoc at (c.add_variable.ensures.text before _ (c.add.ensures.text before text so_far)))

pub returns-in-Store-clause-text : goal.returns-in-Store-clause-text
unfolding instr_text
returns-in-Store-clause-text g c = λ before text so_far.
    rw c.in-Store.is
    (simp append_assoc
    (simp append_assoc at
    (rw (c.as_bytes.ensures.value, c.store_punctuator.ensures.punctuator) at
    (c.add-in-Store-2.ensures.text before _
    (c.add_byte.ensures.text before _
    (c.add_variable-in-Store.ensures.text before _
    (c.add-in-Store.ensures.text before text so_far)))))))

pub returns-in-Const-clause-text : goal.returns-in-Const-clause-text
unfolding instr_text
returns-in-Const-clause-text g c = λ before text so_far.
    let fits : SFits w32 c.in-Const.value = search rules in
    rw c.in-Const.is
    (simp append_assoc at
    (rw (to_z-of_z w32 c.in-Const.value fits) at
    (c.add_value.ensures.text before _ (c.add-in-Const.ensures.text before text so_far))))

pub returns-in-Binop-clause-text : goal.returns-in-Binop-clause-text
unfolding instr_text
returns-in-Binop-clause-text g c = λ before text so_far.
    rw c.in-Binop.is
    (simp append_assoc at
    (rw (c.as_bytes-in-Binop.ensures.value, c.operator_punctuator.ensures.punctuator) at
    (c.add-in-Binop-2.ensures.text before _ (c.add-in-Binop.ensures.text before text so_far))))

pub returns-in-Fcall-clause-text : goal.returns-in-Fcall-clause-text
unfolding instr_text
returns-in-Fcall-clause-text g c = λ before text so_far.
    rw c.in-Fcall.is
    (simp append_assoc at (c.add_callee.ensures.text before _ (c.add-in-Fcall.ensures.text before text so_far)))

pub returns-in-Retsub-clause-text : goal.returns-in-Retsub-clause-text
unfolding instr_text
returns-in-Retsub-clause-text g c = λ before text so_far.
    rw c.in-Retsub.is (c.add-in-Retsub.ensures.text before text so_far)

pub returns-in-Branch-clause-text : goal.returns-in-Branch-clause-text
unfolding instr_text
returns-in-Branch-clause-text g c = λ before text so_far.
    rw c.in-Branch.is
    (simp append_assoc at
    (rw c.from.ensures at (c.add_number.ensures.text before _ (c.add-in-Branch.ensures.text before text so_far))))

pub returns-in-Chop-clause-text : goal.returns-in-Chop-clause-text
unfolding instr_text
returns-in-Chop-clause-text g c = λ before text so_far.
    rw c.in-Chop.is (c.add-in-Chop.ensures.text before text so_far)

pub returns-in-Frame-clause-text : goal.returns-in-Frame-clause-text
unfolding instr_text
returns-in-Frame-clause-text g c = λ before text so_far.
    rw c.in-Frame.is (c.add-in-Frame.ensures.text before text so_far)

pub returns-in-Truth-clause-text : goal.returns-in-Truth-clause-text
unfolding instr_text
returns-in-Truth-clause-text g c = λ before text so_far.
    rw c.in-Truth.is (c.add-in-Truth.ensures.text before text so_far)

pub returns-in-Nop-clause-text : goal.returns-in-Nop-clause-text
unfolding instr_text
returns-in-Nop-clause-text g c = λ before text so_far.
    rw c.in-Nop.is (c.add-in-Nop.ensures.text before text so_far)
