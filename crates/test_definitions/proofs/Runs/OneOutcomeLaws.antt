-- Two outcomes of the same clients on the same image agree, up to an output that fails.
use Rattle.std.proofs.Common.{◌≡◌, ◌≢◌, ℕ, ◌≤◌, List, [], ◌∷◌, ◌++◌, length, drop, inl, inr, refl, sym, ap, ◌∙◌, subst, arith}
use Rattle.std.specs.Prelude.{⊤}
use Rattle.std.proofs.lemmas.List.{append_assoc, append-nil, length-append, length-drop}
use Rattle.seg_spec.specs.Types.{Table, Agree, longer}
use Rattle.std.specs.List.{AllByRecursion}
use Rattle.seg_spec.specs.Bytes.{word}
use Rattle.seg_spec.specs.Header.{next_word}
use Rattle.seg_spec.specs.Index.{Root}
use Rattle.seg_spec.specs.Sound.{Picture, IsHeld, HoldsRoots, holds_no_root, holds_more_roots}
use Rattle.seg_spec.specs.Counting.{AreCounted}
use Rattle.seg_spec.specs.Images.{upgraded}
use Rattle.seg_spec.proofs.Images.UpgradeLaws.{upgraded_held, same_word}
use Rattle.client_spec.specs.Outcome.{IsOutcome}
use Rattle.client_spec.proofs.Spelling.OneClientLaws.{one_client}
use Rattle.client_sim.proofs.Names.OnePictureLaws.{Held-one}
use Rattle.client_spec.specs.Syntax.{Client}
use Rattle.client_spec.specs.Machine.{State}
use Rattle.client_spec.specs.Run.{Ending, finished, stopped, stuck}
use Rattle.client_spec.specs.OnImages.{Move, Situation, Given, Left, RunsClient, image_machine}
use Rattle.client_spec.specs.Clients.{AreAccepted, given_next, GoesOn, RunClients, outputs, ending_after}
use Rattle.client_spec.proofs.Runs.KeptByRunLaws.{Each, code_keeps, no_condition}
use Rattle.test_definitions.specs.Alike.{AlikeRoot, AreAlike}
use Rattle.test_definitions.proofs.ValueChanges.AlikePlaceLaws.{each_itself}
use Rattle.test_definitions.specs.Agreement.{IsLonger, AlikeUpTo, AgreeIn, AllAgree, StopsEarlier, OneOutcome}
use Rattle.test_definitions.proofs.Runs.AlikeRunLaws.{row_writes, runs_alike}
use Rattle.test_definitions.proofs.Runs.AlikeFirstLaws.{first_alike}
use Rattle.test_definitions.proofs.Runs.AlikeEndLaws.{ends_alike}

-- ---- an output that fails

ending_behind : (left : Left) (lefts : List Left) → ending_after lefts ≡ stopped → ending_after (left ∷ lefts) ≡ stopped
ending_behind left [] e = absurd (let f : finished ≡ stopped = e in cc)
ending_behind left (next ∷ lefts) e = e

-- after a client whose output is the same
earlier : (left other : Left) (lefts others : List Left) → other.output ≡ left.output → StopsEarlier lefts others → StopsEarlier (left ∷ lefts) (other ∷ others)
earlier left other lefts others same l = record {
  failed = ending_behind left lefts l.failed;
  longer = record {
    more = l.longer.more;
    is = ap (λ o. o ++ outputs others) same ∙ ap (λ o. left.output ++ o) l.longer.is ∙ sym (append_assoc left.output (outputs lefts) l.longer.more);
    some = l.longer.some;
  };
}

-- the output of the last client failed
at_last : (left other : Left) (lefts others : List Left) → lefts ≡ [] → left.ending ≡ stopped → IsLonger left.output other.output → StopsEarlier (left ∷ lefts) (other ∷ others)
at_last left other [] others none e l = record {
  failed = e;
  longer = record {
    more = l.more ++ outputs others;
    is = ap (λ o. o ++ outputs others) l.is ∙ append_assoc left.output l.more (outputs others) ∙ ap (λ o. o ++ (l.more ++ outputs others)) (sym (append-nil left.output));
    some = (let n = length-append l.more (outputs others) in let some = l.some in omega arith);
  };
}
at_last left other (next ∷ lefts) others none e l = cc

-- nothing runs after an output that failed
none_after : (ending : Ending) (others : Type 0) (lefts : List Left) → ending ≡ stopped → GoesOn ending others lefts → lefts ≡ []
none_after finished others lefts e g = cc
none_after stopped others lefts e g = g
none_after stuck others lefts e g = absurd g

-- ---- one client

-- what a client is given, except for the image and its host
abbrev given_with : List Root → List Move → ℕ → List ℕ → List ℕ → List ℕ → Given
given_with others moves base input image host = record { others = others; moves = moves; image = image; host = host; base = base; input = input }

same_read : (input : List ℕ) (n m : ℕ) → n ≤ length input → m ≤ length input → drop n input ≡ drop m input → n ≡ m
same_read input n m l k e = (let long = ap length e in let a = length-drop n input in let b = length-drop m input in omega arith)

-- the ends of two runs of a client
data LeftAlike (others : List Root) (left other : Left) : Type 0 where
  alike : other.steps ≡ left.steps → other.read ≡ left.read → other.ending ≡ left.ending → other.output ≡ left.output → other.base ≡ left.base → AreAlike others [] left.image other.image → LeftAlike others left other
  first_ended : left.ending ≡ stopped → IsLonger left.output other.output → LeftAlike others left other
  second_ended : other.ending ≡ stopped → IsLonger other.output left.output → LeftAlike others left other

module _ (client : Client) (others : List Root) (moves : List Move) (base : ℕ) (input image image_too host host_too : List ℕ) where
  abbrev given : Given
  given = given_with others moves base input image host

  abbrev given_too : Given
  given_too = given_with others moves base input image_too host_too

  client_alike : (a : AreAlike others [] image image_too) → Agree a.picture.table client.types → (left left_too : Left) → RunsClient client given left → RunsClient client given_too left_too → LeftAlike others left left_too
  client_alike a agree left left_too r q =
      let first = first_alike client given given_too r.first q.first a refl refl agree r.is_first q.is_first in
      by (runs_alike client.constants others moves client.code r.first q.first r.last q.last left.steps left_too.steps left.ending left_too.ending first r.run q.run)
    where
      by : AlikeUpTo others r.last left.steps left.ending q.last left_too.steps left_too.ending → LeftAlike others left left_too
      by (inl (last, steps, ends)) =
          let e = r.is_left in
          let f = q.is_left in
          let inputs = sym f.input ∙ ap (λ (s : State). s.input) last.stand.states ∙ e.input in
          let outputs = f.output ∙ ap (λ (s : State). s.output) last.stand.states ∙ sym e.output in
          alike (sym steps) (same_read input left_too.read left.read f.read_there e.read_there inputs) (sym ends) outputs (f.base ∙ last.base ∙ sym e.base)
          (ends_alike others moves moves base base input input image image_too host host_too r.last q.last left left_too last.stand e f)
      by (inr (inl (e, l))) = first_ended e (subst (λ o. IsLonger o left_too.output) (sym r.is_left.output) (subst (IsLonger r.last.state.output) (sym q.is_left.output) l))
      by (inr (inr (e, l))) = second_ended e (subst (λ o. IsLonger o left.output) (sym q.is_left.output) (subst (IsLonger q.last.state.output) (sym r.is_left.output) l))

-- ---- the types after a run

types_kept : (client : Client) (given : Given) (left : Left) (r : RunsClient client given left) → r.last.state.types ≡ r.first.state.types
types_kept client given left r =
    let keeps = code_keeps Situation (image_machine client.constants given.others given.moves) (λ i. ⊤) (λ k y. y.state.types ≡ r.first.state.types)
    (λ i x answer y k q row same. (row_writes client.constants i x.image x.state answer y.state row.row).types ∙ same)
    (λ i x y k q stop same. ap (λ (s : State). s.types) stop.cut.taken ∙ same)
    (λ x y k tick same. ap (λ (s : State). s.types) tick.state ∙ same) client.code (no_condition client.code) in
    keeps.each r.first r.last left.steps left.ending 0 r.run refl

-- a picture of the image that is given, and one of the image that is left
table_after_run : (client : Client) (given : Given) (left : Left) (p q : Picture) → IsHeld given.image p → IsHeld left.image q → RunsClient client given left → q.table ≡ longer p.table client.types
table_after_run client given left p q h k r =
    let f = r.is_first in
    let e = r.is_left in
    (Held-one left.image q e.picture k e.held).table ∙ e.types ∙ types_kept client given left r ∙ f.types ∙ ap (λ table. longer table client.types) (Held-one given.image f.picture p f.held h).table

-- ---- several clients

-- the first client's results agree
first_agrees : (left other : Left) (lefts others : List Left) → AgreeIn left other → OneOutcome lefts others → OneOutcome (left ∷ lefts) (other ∷ others)
first_agrees left other lefts others a (inl all) = inl (a, all)
first_agrees left other lefts others a (inr (inl l)) = inr (inl (earlier left other lefts others a.output l))
first_agrees left other lefts others a (inr (inr l)) = inr (inr (earlier other left others lefts (sym a.output) l))

module _ (moves : List Move) where
  -- the clients have one outcome on images that are alike and have these types
  abbrev Outcomes : List Client → Table → Type 0
  Outcomes clients table = (base : ℕ) (input image image_too host host_too : List ℕ) (a : AreAlike [] [] image image_too) → a.picture.table ≡ table
      → (lefts others : List Left) → RunClients clients (given_with [] moves base input image host) lefts → RunClients clients (given_with [] moves base input image_too host_too) others → OneOutcome lefts others

  clients_alike : (clients : List Client) (table : Table) (texts : List (List ℕ)) → AreAccepted table texts clients → Outcomes clients table
  clients_alike [] table texts ok base input image image_too host host_too a is [] [] r q = inl tt
  clients_alike [] table texts ok base input image image_too host host_too a is [] (other ∷ others) r q = absurd q
  clients_alike [] table texts ok base input image image_too host host_too a is (left ∷ lefts) others r q = absurd r
  clients_alike (client ∷ clients) table texts ok base input image image_too host host_too a is [] others r q = absurd r
  clients_alike (client ∷ clients) table texts ok base input image image_too host host_too a is (left ∷ lefts) [] r q = absurd q
  clients_alike (client ∷ clients) table [] ok base input image image_too host host_too a is (left ∷ lefts) (other ∷ others) r q = absurd ok
  clients_alike (client ∷ clients) table (text ∷ texts) ok base input image image_too host host_too a is (left ∷ lefts) (other ∷ others) r q =
      by (clients_alike clients (longer table client.types) texts ok.2)
      (client_alike client [] moves base input image image_too host host_too a (subst (λ t. Agree t client.types) (sym is) ok.1.agree) left other r.0 q.0)
    where
      go_on : Outcomes clients (longer table client.types) → (ending ending_too : Ending) → ending_too ≡ ending → AgreeIn left other
          → GoesOn ending (RunClients clients (given_next (given_with [] moves base input image host) left) lefts) lefts
          → GoesOn ending_too (RunClients clients (given_next (given_with [] moves base input image_too host_too) other) others) others
          → OneOutcome (left ∷ lefts) (other ∷ others)
      go_on later finished finished e agree g h =
          let next = agree.images in
          let at_read = subst (λ n. RunClients clients (given_with [] moves other.base (drop n input) other.image other.host) others) agree.read h in
          let at_base = subst (λ b. RunClients clients (given_with [] moves b (drop left.read input) other.image other.host) others) agree.base at_read in
          let types : next.picture.table ≡ longer table client.types = table_after_run client (given_with [] moves base input image host) left a.picture next.picture a.held next.held r.0 ∙ ap (λ t. longer t client.types) is in
          first_agrees left other lefts others agree
          (later left.base (drop left.read input) left.image other.image left.host other.host next types lefts others g at_base)
      go_on later stopped stopped e agree g h = inl (agree, subst (λ ls. AllAgree ls others) (sym g) (subst (λ os. AllAgree [] os) (sym h) tt))
      go_on later stuck ending_too e agree g h = absurd g
      go_on later ending stuck e agree g h = absurd h
      go_on later finished stopped e agree g h = cc
      go_on later stopped finished e agree g h = cc

      by : Outcomes clients (longer table client.types) → LeftAlike [] left other → OneOutcome (left ∷ lefts) (other ∷ others)
      by later (alike steps read ending output base images) = go_on later left.ending other.ending ending (record { steps = steps; read = read; ending = ending; output = output; base = base; images = images }) r.1 q.1
      by later (first_ended e l) = inr (inl (at_last left other lefts others (none_after left.ending _ lefts e r.1) e l))
      by later (second_ended e l) = inr (inr (at_last other left others lefts (none_after other.ending _ others e q.1) e l))

-- ---- outcomes

-- texts spell one list of clients
same_clients : (table table_too : Table) (texts : List (List ℕ)) (clients others : List Client) → AreAccepted table texts clients → AreAccepted table_too texts others → clients ≡ others
same_clients table table_too [] [] [] a b = refl
same_clients table table_too [] [] (other ∷ others) a b = absurd b
same_clients table table_too [] (client ∷ clients) others a b = absurd a
same_clients table table_too (text ∷ texts) [] others a b = absurd a
same_clients table table_too (text ∷ texts) (client ∷ clients) [] a b = absurd b
same_clients table table_too (text ∷ texts) (client ∷ clients) (other ∷ others) a b =
    let first : client ≡ other = one_client client other a.0.valid b.0.valid (sym a.0.spelled ∙ b.0.spelled) in
    let rest : clients ≡ others = same_clients (longer table client.types) (longer table_too other.types) texts clients others a.2 b.2 in
    ap (λ c. c ∷ clients) first ∙ ap (λ cs. other ∷ cs) rest

-- an image is like itself
roots_itself : (bytes : List ℕ) (table : Table) {roots : List Root} {blocks : List ℕ} → HoldsRoots bytes table roots blocks → AllByRecursion (AlikeRoot bytes bytes table) roots
roots_itself bytes table holds_no_root = tt
roots_itself bytes table (holds_more_roots h hs) = (each_itself bytes table h.values, roots_itself bytes table hs)

image_itself : (bytes : List ℕ) (picture : Picture) → IsHeld bytes picture → AreCounted (word bytes next_word) picture → picture.loose ≡ [] → AreAlike [] [] bytes bytes
image_itself bytes picture held counted loose = record {
  length_same = refl;
  front_same = refl;
  next_same = refl;
  live_same = refl;
  picture = picture;
  held = held;
  held_too = held;
  counted = counted;
  index_same = refl;
  own = [];
  loose = loose;
  owned_are = refl;
  roots = roots_itself bytes picture.table held.roots;
}

pub outcomes_alike : (image : List ℕ) (texts : List (List ℕ)) (input : List ℕ) (room base : ℕ) (moves : List Move) (lefts others : List Left) → (o : IsOutcome image texts input room base moves lefts)
    → IsOutcome image texts input room base moves others → OneOutcome lefts others
outcomes_alike image texts input room base moves lefts others o q =
    let sound = o.can_run.sound in
    let start = upgraded image in
    let counted = subst (λ n. AreCounted n sound.picture) (sym (same_word image next_word (omega arith))) sound.counted in
    let a = image_itself start sound.picture (upgraded_held image sound.picture sound.held) counted sound.none_loose in
    let held = upgraded_held image sound.picture sound.held in
    let clients = same_clients q.can_run.sound.picture.table sound.picture.table texts q.can_run.clients o.can_run.clients q.can_run.accepted o.can_run.accepted in
    clients_alike moves o.can_run.clients sound.picture.table texts o.can_run.accepted base input start start o.host q.host a (Held-one start a.picture sound.picture a.held held).table lefts others o.runs
    (subst (λ cs. RunClients cs (given_with [] moves base input start q.host) others) clients q.runs)

-- ---- when both wrote as much, or no output failed

not_longer : (xs ys : List ℕ) → IsLonger xs ys → length ys ≡ length xs → ⊥
not_longer xs ys l e = (let long = ap length l.is in let some = l.some in omega (arith, e, long, some, length-append xs l.more))

pub same_length : (lefts others : List Left) → length (outputs others) ≡ length (outputs lefts) → OneOutcome lefts others → AllAgree lefts others
same_length lefts others e (inl all) = all
same_length lefts others e (inr (inl l)) = absurd (not_longer (outputs lefts) (outputs others) l.longer e)
same_length lefts others e (inr (inr l)) = absurd (not_longer (outputs others) (outputs lefts) l.longer (sym e))

pub none_failed : (lefts others : List Left) → ending_after lefts ≢ stopped → ending_after others ≢ stopped → OneOutcome lefts others → AllAgree lefts others
none_failed lefts others ne ne_too (inl all) = all
none_failed lefts others ne ne_too (inr (inl l)) = absurd (ne l.failed)
none_failed lefts others ne ne_too (inr (inr l)) = absurd (ne_too l.failed)
