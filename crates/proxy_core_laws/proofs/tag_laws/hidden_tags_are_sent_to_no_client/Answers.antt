use Rattle.proxy_core_laws.proofs.TagsSent.{passes_no_tag, sends_no_tag}
use Rattle.proxy_core_laws.proofs.tag_laws.hidden_tags_are_sent_to_no_client.Goals as goal

pub returns : goal.returns
returns c = record { sent = sends_no_tag; passed = passes_no_tag }
