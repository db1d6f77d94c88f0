use Rattle.client_code.proofs.FileReadLaws.{text_valid}
use Rattle.client_code.proofs.constant.may_be.Goals as goal

pub returns-in-Text : goal.returns-in-Text
returns-in-Text c = text_valid c.args.kind c.args.bytes.now c.in-Text.is c.type_inv.bytes
