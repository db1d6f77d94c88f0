use Rattle.std.proofs.Common.{rules, ◌≢◌, inl, inr}
use Rattle.client_code.specs.declared.constant.ConstantKind.TheVariants as kinds
use Rattle.client_vm.proofs.NamedLaws.{exact_name, family_name}
use Rattle.client_vm.proofs.name.name_of.Goals as goal

pub returns-in-Text : goal.returns-in-Text
returns-in-Text c =
    let other : c.args.constant.kind ≢ kinds.Family = λ e. elim c.in-Text.is [ inl a ↦ cc | inr a ↦ cc ] in
    exact_name c.args.constant.kind c.args.constant.bytes.now c.new-name.result.items c.append.new.name.items c.args.number other c.new-name.ensures c.append.ensures

pub returns-in-Family : goal.returns-in-Family
returns-in-Family c =
    family_name c.args.constant.kind c.args.constant.bytes.now c.new-name.result.items c.append.new.name.items c.append-in-Family.new.name.items c.append-in-Family-2.new.name.items c.as_bytes.result.now c.format.result.now c.args.number _
    c.in-Family.is c.new-name.ensures c.append.ensures c.append-in-Family.ensures c.append-in-Family-2.ensures c.as_bytes.ensures.value c.format.ensures.text (search rules) c.format.ensures.fits
