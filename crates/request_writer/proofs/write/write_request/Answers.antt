use Rattle.std.proofs.Common.{rules}
use Rattle.request_writer.proofs.WriteLaws.{request-cursor, request-written}
use Rattle.request_writer.proofs.write.write_request.Goals as goal

pub returns : goal.returns
returns c = search (request-cursor, request-written, rules)
