use Rattle.std.proofs.Common.{◌≡◌, ap, sym, ◌∙◌, false, Option, Some}
use Rattle.std.specs.Option.{option_map}
use Rattle.hx_framing.specs.declared.messages.Response.{Response}
use Rattle.hx_framing.specs.declared.messages.Next.{Next}
use Rattle.hx_framing.specs.declared.messages.Next.TheVariants as next
use Rattle.hx_status.specs.declared.cause.FailKind.{FailKind}
use Rattle.proxy_engine.specs.declared.endpoints.lookahead.Lookahead.{Lookahead}
use Rattle.proxy_engine.specs.declared.endpoints.lookahead.Lookahead.TheVariants.{Unknown, Quiet, Due}
use Rattle.proxy_engine.specs.Lookahead.{lookahead_is_due}
use Rattle.proxy_engine.specs.Due.{LinkResult, Gives, Breaks}
use Rattle.proxy_engine.specs.State.{link_result_of_lookahead}
use Rattle.proxy_engine.proofs.Acting.{on_ok}
use Rattle.proxy_engine.proofs.Ending.{given_seen}
use Rattle.proxy_engine.proofs.steps.finishing.end.Goals as goal

-- where nothing stands on a link its failure counts
failure_seen : (l : Lookahead Response) (failed : Option FailKind) (kind : FailKind) → false ≡ lookahead_is_due l → failed ≡ Some kind → link_result_of_lookahead l failed ≡ Some (Breaks kind)
failure_seen Unknown failed kind quiet is = ap (option_map Breaks) is
failure_seen Quiet failed kind quiet is = ap (option_map Breaks) is
failure_seen (Due next.More) failed kind quiet is = ap (option_map Breaks) is
failure_seen (Due next.NeedsContinue) failed kind quiet is = absurd (cc)
failure_seen (Due (next.Message m)) failed kind quiet is = absurd (cc)
failure_seen (Due (next.Refused f)) failed kind quiet is = absurd (cc)
failure_seen (Due next.End) failed kind quiet is = absurd (cc)

pub returns-in-Ok-clause-ok : goal.returns-in-Ok-clause-ok
returns-in-Ok-clause-ok g c = (
  Gives c.in-Message.response,
  given_seen c.args.link.now c.in-Message.response (c.in-Some.ensures.value ∙ ap (λ (a : Next Response). Due a) c.in-Message.is),
  c.in-Ok.ensures.ok,
)

pub returns-in-Some-failed-clause-ok : goal.returns-in-Some-failed-clause-ok
returns-in-Some-failed-clause-ok g c =
    on_ok c.fail-in-Some-failed.result _ _
    (λ step accepted. (Breaks c.in-Some-failed.kind, failure_seen c.args.link.now.reader.ahead c.args.link.now.failed c.in-Some-failed.kind c.in-None.ensures.variant c.in-Some-failed.is, accepted))
    c.fail-in-Some-failed.ensures.ok
