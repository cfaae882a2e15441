use Rattle.std.proofs.Common.{rules, ◌≡◌, ◌∙◌, ◌++◌, ap, subst}
use Rattle.std.proofs.lemmas.Option.{get_or_from_slice_get}
use Rattle.grammar.proofs.Indices.{get_set_other}
use Rattle.watching.specs.Heard.{news_heard}
use Rattle.watching.specs.Runs.{news_of}
use Rattle.watching.specs.declared.runs.News.{News}
use Rattle.watching.specs.declared.seen.Seen.{Seen}
use Rattle.watching.proofs.Hearing.{ended_and_begun, only_ended}
use Rattle.watching.proofs.cameras.Camera.follow.Goals as goal

pub returns-in-Some-clause-heard : goal.returns-in-Some-clause-heard
returns-in-Some-clause-heard g c = λ events seen at heard.
    let news : c.go_on-news.result ≡ news_of seen.run c.args.stance =
    c.go_on-news.ensures.news
    ∙ ap (λ (s : Seen). news_of s.run c.args.stance) (get_or_from_slice_get c.args.self.now.seen c.args.robot seen _ at)
    in
    subst (λ (n : News). g.R.Listener.heard c.tell.new.self (events ++ news_heard c.args.robot n)) news
    (ended_and_begun (g.R.Listener.heard c.tell.new.self) events c.args.robot c.go_on-news.result c.stance.result
    c.in-Some.begin c.in-Some.is c.stance.ensures.kind c.stance.ensures.fields
    (c.tell.ensures.heard _ (c.tell_end.ensures.heard events heard)))

pub returns-in-Some-clause-others : goal.returns-in-Some-clause-others
returns-in-Some-clause-others g c = λ other not.
    rw c.tell_end.ensures.rest (get_set_other c.args.self.now.seen c.args.robot other _ not)

pub returns-in_default-clause-heard : goal.returns-in_default-clause-heard
returns-in_default-clause-heard g c = λ events seen at heard.
    let news : c.go_on-news.result ≡ news_of seen.run c.args.stance =
    c.go_on-news.ensures.news
    ∙ ap (λ (s : Seen). news_of s.run c.args.stance) (get_or_from_slice_get c.args.self.now.seen c.args.robot seen _ at)
    in
    subst (λ (n : News). g.R.Listener.heard c.tell_end.new.self.rows (events ++ news_heard c.args.robot n)) news
    (only_ended (g.R.Listener.heard c.tell_end.new.self.rows) events c.args.robot c.go_on-news.result
    (search rules) (c.tell_end.ensures.heard events heard))

pub returns-in_default-clause-others : goal.returns-in_default-clause-others
returns-in_default-clause-others g c = λ other not.
    rw c.tell_end.ensures.rest (get_set_other c.args.self.now.seen c.args.robot other _ not)
