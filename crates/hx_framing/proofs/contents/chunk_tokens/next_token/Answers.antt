use Rattle.hx_framing.proofs.contents.chunk_tokens.next_token.Goals as goal

pub returns-in-Size-clause-takes : goal.returns-in-Size-clause-takes
returns-in-Size-clause-takes c = c.size_token.ensures c.args.content.now.items

pub returns-in-DataEnd-clause-takes : goal.returns-in-DataEnd-clause-takes
returns-in-DataEnd-clause-takes c = c.data_end_token.ensures c.args.content.now.items

pub returns-in-Trailers-clause-takes : goal.returns-in-Trailers-clause-takes
returns-in-Trailers-clause-takes c = c.trailer_token.ensures c.args.content.now.items
