use Rattle.std.proofs.Common.{◌≡◌, ℕ, ◌-◌, ◌++◌, List, take, replicate, Vec, vec_len, vec_capacity, ap, ◌∙◌}
use Rattle.std_alloc.specs.declared.vec.lodged.Lodged.{Lodged}
use Rattle.seg_spec.specs.Window.{Home}
use Rattle.seg_raw.specs.Homes.{home_of}
use Rattle.lezgauri.specs.Loans.{IsLoan, IsWhole, IsReturned, IsFilled}
use Rattle.lezgauri.proofs.lending.lend.Goals as goal

same_room : (vec other : Vec ℕ Lodged) → home_of vec ≡ home_of other → vec_capacity vec ≡ vec_capacity other
same_room vec other home = ap (λ (h : Home). h.room) home

loan_of : {bytes : List ℕ} {used : ℕ} {vec short : Vec ℕ Lodged} → IsWhole bytes vec → short.items ≡ take used vec.items → home_of short ≡ home_of vec → IsLoan bytes used short
loan_of {used = used} {vec = vec} {short = short} whole items home = record {
  items = items ∙ ap (take used) whole.items;
  room = same_room short vec home ∙ whole.full;
}

-- what is put back is as long as the slice
returned_of : {bytes : List ℕ} {vec back new : Vec ℕ Lodged} → IsWhole bytes vec → home_of back ≡ home_of vec → IsFilled back new → IsReturned bytes vec new
returned_of {vec = vec} {back = back} whole home filled = record {
  home = filled.home ∙ home;
  whole = filled.full ∙ same_room back vec home ∙ whole.full;
}

pub lend_whole-requires-clause-callable : goal.lend_whole-requires-clause-callable
lend_whole-requires-clause-callable g c = λ vec whole short items home. c.requires.callable short (loan_of whole items home)

pub lend_whole-requires-clause-returned : goal.lend_whole-requires-clause-returned
lend_whole-requires-clause-returned g c = λ vec out whole done.
    let it = done.1 in
    returned_of whole (c.requires.returned it.0 (it.1, out.1) (loan_of whole it.2 it.3) it.4 ∙ it.3) it.5

pub returns : goal.returns
returns g c =
    let e = c.lend_whole.ensures in
    let it = e.3.1 in
    let short = it.0 in
    let back = it.1 in
    let loan = loan_of e.2 it.2 it.3 in
    let room = same_room back short (c.requires.returned short (back, c.lend_whole.result) loan it.4) ∙ loan.room in
    (short, back, loan, it.4, e.4 ∙ it.5.items ∙ ap (λ (n : ℕ). back.items ++ replicate (n - vec_len back) 0) room)
