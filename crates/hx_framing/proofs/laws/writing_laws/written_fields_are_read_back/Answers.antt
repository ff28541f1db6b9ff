use Rattle.hx_framing.proofs.WrittenFields.{without_length, without_coding}
use Rattle.hx_framing.proofs.laws.writing_laws.written_fields_are_read_back.Goals as goal

pub returns-clause-length : goal.returns-clause-length
returns-clause-length c = without_length

pub returns-clause-coding : goal.returns-clause-coding
returns-clause-coding c = without_coding
