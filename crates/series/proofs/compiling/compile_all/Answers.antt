use Rattle.std.proofs.Common.{false, ◌≡◌, ◌+◌, ◌<◌, ◌≤◌, ◌^◌, ◌-◌, ◌∙◌, ap, [], Some, length, refl, set, arith}
use Rattle.std.proofs.lemmas.List.{length-map}
use Rattle.std.proofs.lemmas.List.Elements.{All-get_or}
use Rattle.battles.specs.Programs.{AreOfProfile}
use Rattle.settings.specs.SettingsLimits.{most_files}
use Rattle.series.specs.Failures.{Failures}
use Rattle.series.specs.declared.run_results.Status.TheVariants.{Done}
use Rattle.series.proofs.CompilingLemmas.{IsManned, all_compiled, kept_with, manned_with, pieces_more, pieces_cut, so_kept, status_more}
use Rattle.series.proofs.ReadingLemmas.{cut_at, fails_at, reads_all, reads_first, reads_more, same_length}
use Rattle.series.proofs.RunsLemmas.{all_of_one, feed_here, length_sources, none_failed, read_failed, rest_more, source_here, write_failed}
use Rattle.series.proofs.compiling.compile_all.Goals as goal

pub returns-in-Err-Write-clause-over : goal.returns-in-Err-Write-clause-over
returns-in-Err-Write-clause-over g c = record {
  output = λ sources are.
      let here =
      source_here (λ feed. (g.F.Feed.device feed).to_come) c.args.feeds.now c.loop-file.feeds c.loop-file.file
      c.index-feeds-file.result sources (λ word. word.now) c.file_words-words.result.now _
      c.args.settings.now.file_words c.as_bytes.result.now are c.requires.ready.files (omega arith)
      c.loop-file.invariant.0 c.file_words-words.ensures.value c.as_bytes.ensures.value in
      record {
        output = pieces_cut _ _ sources _ _ _ _ here.within (c.loop-file.invariant.4 sources are).0
            (rw (c.loop-file.invariant.2, c.profile-profile.ensures.value, c.file_name-name.ensures, here.named) at
            ((rw c.in-Err-Write.field-0-is at c.in-Err-Write.ensures.output) _ here.bytes).output);
        programs = tt;
      };
  read = record {
    count = c.loop-file.file + 1;
    reads =
        reads_first (λ feed. (g.F.Feed.device feed).to_come) c.args.settings.now.profile c.args.feeds.now
        (set c.loop-file.feeds c.loop-file.file c.compile_file.new.feed)
        (c.loop-file.file + 1)
        (rest_more c.args.feeds.now c.loop-file.feeds c.loop-file.file c.compile_file.new.feed c.loop-file.invariant.0)
        (reads_more (λ feed. (g.F.Feed.device feed).to_come) c.args.settings.now.profile c.args.feeds.now
        c.loop-file.feeds c.loop-file.file
        c.index-feeds-file.result c.compile_file.new.feed
        (omega arith) c.loop-file.invariant.0 c.loop-file.invariant.5
        (rw (c.in-Err-Write.field-0-is, c.profile-profile.ensures.value) at c.in-Err-Write.ensures.read));
    puts = λ sources are.
        let here =
        source_here (λ feed. (g.F.Feed.device feed).to_come) c.args.feeds.now c.loop-file.feeds c.loop-file.file
        c.index-feeds-file.result sources (λ word. word.now) c.file_words-words.result.now _
        c.args.settings.now.file_words c.as_bytes.result.now are c.requires.ready.files (omega arith)
        c.loop-file.invariant.0 c.file_words-words.ensures.value c.as_bytes.ensures.value in
        cut_at _ _ sources c.loop-file.file _ _ _ _ (c.loop-file.invariant.4 sources are).0
        ((rw c.in-Err-Write.field-0-is at c.in-Err-Write.ensures.output) _ here.bytes).output;
  };
  failures =
      write_failed (λ feed. (g.F.Feed.device feed).account) c.args.feeds.now c.loop-file.feeds c.loop-file.file _ _ _ _
      _
      _
      c.index-feeds-file.result c.compile_file.new.feed
      c.loop-file.invariant.1 (rw c.in-Err-Write.field-0-is at c.in-Err-Write.ensures.failures.feed)
      (rw c.in-Err-Write.field-0-is at c.in-Err-Write.ensures.failures.sinks);
}

pub returns-in-Err-Read-clause-over : goal.returns-in-Err-Read-clause-over
returns-in-Err-Read-clause-over g c =
    let within : c.loop-file.file < length c.args.feeds.now = omega arith in
    let nothing = rw c.in-Err-Read.field-0-is at c.in-Err-Read.ensures.output in
    record {
      output = λ sources are. record {
        output = rw (nothing.0, nothing.1) (c.loop-file.invariant.4 sources are).0;
        programs = tt;
      };
      read = fails_at (λ feed. (g.F.Feed.device feed).to_come) c.args.settings.now.profile c.args.feeds.now
          c.loop-file.feeds c.loop-file.file c.index-feeds-file.result c.compile_file.new.feed
          within c.loop-file.invariant.0 c.loop-file.invariant.5
          (rw (c.in-Err-Read.field-0-is, c.profile-profile.ensures.value) at c.in-Err-Read.ensures.read);
      failures = (
        rw (length-map c.args.feeds.now (λ feed. (g.F.Feed.device feed).account)) within,
        rw (nothing.0, nothing.1)
            (read_failed (λ feed. (g.F.Feed.device feed).account) c.args.feeds.now c.loop-file.feeds c.loop-file.file _
            _ _ _ c.index-feeds-file.result c.compile_file.new.feed c.loop-file.invariant.1
            (same_length c.args.feeds.now c.loop-file.feeds c.loop-file.file within c.loop-file.invariant.0)
            (rw c.in-Err-Read.field-0-is at c.in-Err-Read.ensures.failures.feed)),
      );
    }

pub loop-file-preserved : goal.loop-file-preserved
loop-file-preserved g c = (
  rest_more c.args.feeds.now c.loop-file.feeds c.loop-file.file c.compile_file.new.feed c.loop-file.invariant.0,
  rw (
    none_failed (λ feed. (g.F.Feed.device feed).account) c.loop-file.feeds c.loop-file.file c.index-feeds-file.result
        c.compile_file.new.feed
        c.in-Ok.ensures.failures.feed,
    c.in-Ok.ensures.failures.sinks.0,
    c.in-Ok.ensures.failures.sinks.1,
  ) c.loop-file.invariant.1,
  c.compile_file.ensures.keeps.same_mode ∙ c.loop-file.invariant.2,
  rw c.worse_status-status.ensures
      (manned_with c.loop-file.status c.in-Ok.compiled c.loop-file.file _ _
      c.in-Ok.ensures.keeps.manned c.loop-file.invariant.3),
  λ sources are.
      let here =
      source_here (λ feed. (g.F.Feed.device feed).to_come) c.args.feeds.now c.loop-file.feeds c.loop-file.file
      c.index-feeds-file.result sources (λ word. word.now) c.file_words-words.result.now _
      c.args.settings.now.file_words c.as_bytes.result.now are c.requires.ready.files (omega arith)
      c.loop-file.invariant.0 c.file_words-words.ensures.value c.as_bytes.ensures.value in
      let (writes, status, kept) = c.loop-file.invariant.4 sources are in
      let compiles = rw c.profile-profile.ensures.value at (c.in-Ok.ensures.output _ here.bytes) in (
        pieces_more _ _ sources _ _ _ _ here.within writes
            (rw (c.loop-file.invariant.2, c.file_name-name.ensures, here.named) at compiles.output),
        rw c.worse_status-status.ensures
            (status_more c.args.settings.now.profile sources c.loop-file.file _ _ here.within status compiles.status),
        rw c.worse_status-status.ensures
            (kept_with c.args.settings.now.profile sources c.loop-file.file _ _ _ _ here.within kept compiles.status
            compiles.keeps),
      ),
  reads_more (λ feed. (g.F.Feed.device feed).to_come) c.args.settings.now.profile c.args.feeds.now c.loop-file.feeds
      c.loop-file.file
      c.index-feeds-file.result c.compile_file.new.feed
      (omega arith) c.loop-file.invariant.0 c.loop-file.invariant.5
      (rw c.profile-profile.ensures.value at c.in-Ok.ensures.read),
  rw c.profile-profile.ensures.value at c.compile_file.ensures.keeps.alike,
)

pub compile_file-requires-clause-keeps : goal.compile_file-requires-clause-keeps
compile_file-requires-clause-keeps g c = record {
  room = so_kept (IsManned c.loop-file.status c.loop-file.file) (λ k. length k < most_files) _
      (λ k are. omega (arith, are.0, c.requires.ready.files, c.file_words-words.ensures.within.most_files))
      c.loop-file.invariant.3;
  alike = rw c.profile-profile.ensures.value c.loop-file.invariant.6;
}

pub compile_file-requires-clause-ready : goal.compile_file-requires-clause-ready
compile_file-requires-clause-ready g c =
    let within : c.loop-file.file < length c.args.feeds.now = omega arith in
    let here =
    feed_here c.args.feeds.now c.loop-file.feeds c.loop-file.file c.index-feeds-file.result c.loop-file.invariant.0 in
    record {
      files = refl;
      feeds = all_of_one (λ feed. (g.F.Feed.device feed).account.failures < 2 ^ 64 - 1) _
          (rw here (All-get_or (λ feed. (g.F.Feed.device feed).account.failures < 2 ^ 64 - 1) c.args.feeds.now
          c.loop-file.file c.index-feeds-file.result within c.requires.ready.feeds));
      not_ended = all_of_one (λ feed. (g.F.Feed.device feed).ended ≡ false) _
          (rw here (All-get_or (λ feed. (g.F.Feed.device feed).ended ≡ false) c.args.feeds.now c.loop-file.file
          c.index-feeds-file.result within c.requires.ready.not_ended));
      text = rw (ap (λ (f : Failures). f.text) c.loop-file.invariant.1) c.requires.ready.text;
      faults = rw (ap (λ (f : Failures). f.faults) c.loop-file.invariant.1) c.requires.ready.faults;
    }

pub loop-file-init : goal.loop-file-init
loop-file-init g c = (
  refl,
  refl,
  c.requires.new.same_mode,
  so_kept (λ k. k ≡ []) (IsManned Done 0) _ (λ k none. (rw none (omega arith), λ done. rw none refl))
      c.requires.new.none,
  λ sources are.
      (refl, refl, so_kept (λ k. k ≡ []) (λ k. Some k ≡ Some []) _ (λ k none. rw none refl) c.requires.new.none),
  λ file below. absurd (omega (arith, below)),
  so_kept (λ k. k ≡ []) (λ k. AreOfProfile c.args.settings.now.profile k) _
      (λ k none. rw none (λ i d below. absurd (omega arith)))
      c.requires.new.none,
)

pub returns-in-Err-Read-clause-keeps : goal.returns-in-Err-Read-clause-keeps
returns-in-Err-Read-clause-keeps g c =
    record { alike = rw c.profile-profile.ensures.value at c.compile_file.ensures.keeps.alike; manned = tt }

pub returns-in-Err-Write-clause-keeps : goal.returns-in-Err-Write-clause-keeps
returns-in-Err-Write-clause-keeps g c =
    record { alike = rw c.profile-profile.ensures.value at c.compile_file.ensures.keeps.alike; manned = tt }

pub returns-clause-over : goal.returns-clause-over
returns-clause-over g c = record {
  output = λ sources are.
      let past : length sources ≤ c.loop-file.file =
      omega (arith, length_sources sources c.args.settings.now.file_words _ are, c.requires.ready.files) in
      all_compiled c.args.settings.now sources c.loop-file.file c.loop-file.status _ _ _ past
      (c.loop-file.invariant.4 sources are);
  read =
      reads_all (λ feed. (g.F.Feed.device feed).to_come) c.args.settings.now.profile c.args.feeds.now c.loop-file.feeds
      c.loop-file.file
      (omega arith) c.loop-file.invariant.0 c.loop-file.invariant.5;
  failures = c.loop-file.invariant.1;
}

pub returns-clause-keeps : goal.returns-clause-keeps
returns-clause-keeps g c =
    let end : c.loop-file.file ≡ length c.args.settings.now.file_words = omega (arith, c.requires.ready.files) in
    record {
      alike = c.loop-file.invariant.6;
      manned = λ done. so_kept (IsManned c.loop-file.status c.loop-file.file)
          (λ k. length k ≡ length c.args.settings.now.file_words) _ (λ k are. are.1 done ∙ end) c.loop-file.invariant.3;
    }
