use Rattle.std.proofs.Common.{rules, ◌∙◌, [], refl}
use Rattle.grammar.specs.Profile.{Profile}
use Rattle.parser.proofs.Passing.{passed_on}
use Rattle.parser.proofs.Wholes.{begun, file_left, first_refused, first_taking, has_taken, lacking, lacks_taking, reads_of, refused_left, stopped, stops_taking, whole_file, whole_takes}
use Rattle.parser.proofs.sources.parse_into.Goals as goal

pub returns-in_err-open_cursor-clause-refused : goal.returns-in_err-open_cursor-clause-refused
returns-in_err-open_cursor-clause-refused g c =
    rw (passed_on c.from_residual.result c.from_residual.ensures.1)
    (first_refused (g.B.Build.stands c.args.build.now) _ _ c.in_err-open_cursor.field-0.0 _
    c.in_err-open_cursor.ensures.refused)

pub returns-in_err-open_cursor-clause-taken : goal.returns-in_err-open_cursor-clause-taken
returns-in_err-open_cursor-clause-taken g c =
    rw (passed_on c.from_residual.result c.from_residual.ensures.1)
    (first_taking (g.B.Build.stands c.args.build.now) _ _ c.in_err-open_cursor.field-0.0
    c.in_err-open_cursor.ensures.refused)

pub run-read-requires : goal.run-read-requires
run-read-requires g c =
    let new = c.requires.new.0 in
    record {
      at = record {
        start = _;
        is = (begun g.B.Build.stands c.new-frames.ensures refl c.new-parser.ensures.position
            (c.new-parser.ensures.account ∙ c.in_ok-open_cursor.ensures.counted) c.in_ok-open_cursor.ensures.opens
            c.in_ok-open_cursor.ensures.ready c.requires.ready.countable c.requires.new.1 new.profile new.stands);
      };
    }

pub returns-in_err-read : goal.returns-in_err-read
returns-in_err-read g c =
    let new = c.requires.new.0 in
    let refused =
    λ (profile : Profile) (new : g.B.Build.stands c.args.build.now profile []). c.in_err-read.ensures.runs _
    (begun g.B.Build.stands c.new-frames.ensures refl c.new-parser.ensures.position
    (c.new-parser.ensures.account ∙ c.in_ok-open_cursor.ensures.counted) c.in_ok-open_cursor.ensures.opens
    c.in_ok-open_cursor.ensures.ready c.requires.ready.countable c.requires.new.1 profile new) in
    let first = (refused new.profile new.stands).ended in
    rw (passed_on c.from_residual-in_err-read.result c.from_residual-in_err-read.ensures.1) (record {
      file = tt;
      refused = refused_left (g.B.Build.stands c.args.build.now) _ (g.B.Build.stands c.run-read.new.self.builder.now)
          g.B.Build.denied _ _ c.in_err-read.field-0.0 (λ profile acts h. search (rules, h))
          (stopped c.in_err-read.field-0.0 new.profile new.stands
          (has_taken c.run-read.new.self.tokens (g.F.Feed.device c.args.feed.now).to_come _ first.took
          (search rules) c.into_parts-names.ensures.limited)
          refused);
      taken = stops_taking c.in_err-read.field-0.0
          (has_taken c.run-read.new.self.tokens (g.F.Feed.device c.args.feed.now).to_come _ first.took
          (search rules) c.into_parts-names.ensures.limited)
          refused;
      counted = search (rules, first.account);
    })

pub returns-in_err-checked : goal.returns-in_err-checked
returns-in_err-checked g c =
    let new = c.requires.new.0 in
    let stand = λ (profile : Profile) (new : g.B.Build.stands c.args.build.now profile []). c.in_ok-read.ensures.runs _
    (begun g.B.Build.stands c.new-frames.ensures refl c.new-parser.ensures.position
    (c.new-parser.ensures.account ∙ c.in_ok-open_cursor.ensures.counted) c.in_ok-open_cursor.ensures.opens
    c.in_ok-open_cursor.ensures.ready c.requires.ready.countable c.requires.new.1 profile new) in
    let reads =
    λ (profile : Profile) (new : g.B.Build.stands c.args.build.now profile []). reads_of (stand profile new) in
    let first = (stand new.profile new.stands).path in
    rw (passed_on c.from_residual-in_err-checked.result c.from_residual-in_err-checked.ensures.1) (record {
      file = tt;
      refused = refused_left (g.B.Build.stands c.args.build.now) _ (g.B.Build.stands c.run-read.new.self.builder.now)
          g.B.Build.denied _ _ c.in_err-checked.field-0.0 (λ profile acts h. search (rules, h))
          (lacking new.profile new.stands reads _ _ _ c.in_err-checked.ensures.lacks);
      taken = lacks_taking reads first.ready
          (has_taken c.run-read.new.self.tokens (g.F.Feed.device c.args.feed.now).to_come _ first.took (search rules)
          c.into_parts-names.ensures.limited)
          c.in_err-checked.ensures.lacks;
      counted = search (rules, first.account, c.in_err-checked.ensures.lacks);
    })

pub returns : goal.returns
returns g c =
    let new = c.requires.new.0 in
    let stand = λ (profile : Profile) (new : g.B.Build.stands c.args.build.now profile []). c.in_ok-read.ensures.runs _
    (begun g.B.Build.stands c.new-frames.ensures refl c.new-parser.ensures.position
    (c.new-parser.ensures.account ∙ c.in_ok-open_cursor.ensures.counted) c.in_ok-open_cursor.ensures.opens
    c.in_ok-open_cursor.ensures.ready c.requires.ready.countable c.requires.new.1 profile new) in
    let reads =
    λ (profile : Profile) (new : g.B.Build.stands c.args.build.now profile []). reads_of (stand profile new) in
    let first = (stand new.profile new.stands).path in
    record {
      file = file_left g.B.Build.stands _ _ c.run-read.new.self.builder.now _ _ (search rules)
          (whole_file new.profile new.stands reads c.in_ok-checked.ensures.complete (search rules));
      refused = tt;
      taken = whole_takes reads first.ready
          (has_taken c.run-read.new.self.tokens (g.F.Feed.device c.args.feed.now).to_come _ first.took (search rules)
          c.into_parts-names.ensures.limited);
      counted = search (rules, first.account);
    }
