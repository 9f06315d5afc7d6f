-- A text that a command answers for isn't refused; what a status says of the words and of what is written.
use Rattle.std.proofs.Common.{arith, ◌≡◌, ℕ, ◌==◌, if◌then◌else◌, suc, ◌<◌, List, [], ◌∷◌, ◌++◌, length, Option, Some, None, IfSome, refl, sym, ◌∙◌, ap, subst, inl, inr, ◌⊎◌}
use Rattle.std.specs.Option.{IsSomeAnd}
use Rattle.std.proofs.lemmas.List.{append-nil}
use Rattle.command_line.specs.Words.{Request, Prove, Check, Format, file_of}
use Rattle.ports.specs.Causes.{Rose, Counts}
use Rattle.ports.specs.Contents.{Files, Tells}
use Rattle.hll_lexer.specs.declared.fault.LexFault.TheVariants as lexing
use Rattle.hll_lexer.specs.declared.places.LineColumn.{LineColumn}
use Rattle.hll_lexer.specs.declared.token.Token.{Token}
use Rattle.hll_lexer.proofs.SplitLemmas.{one_split, split_or_fault}
use Rattle.hll_tree.specs.declared.tree.HllModel.{HllModel}
use Rattle.hll_tree.specs.Spells.{at_most_before, SpellsUnder, Spells}
use Rattle.hll_tree.specs.Prefixes.{Extends}
use Rattle.hll_meaning.specs.declared.fault.StaticKind.{StaticKind}
use Rattle.hll_meaning.specs.StaticRules.{first_fault, first_of}
use Rattle.hll_grammar.proofs.OneModel.{one_model}
use Rattle.hll_grammar.proofs.Within.{within_spells, within_before}
use Rattle.evidence.specs.declared.evidence.Evidence.{Evidence}
use Rattle.evidence.specs.declared.fault.EvidenceFault.{EvidenceFault}
use Rattle.evidence.specs.declared.fault.EvidenceFault.TheVariants as doubt
use Rattle.evidence.specs.Accepted.{Accepted}
use Rattle.evidence.specs.Checking.{file_limit}
use Rattle.evidence.specs.Counts.{IsTextOf}
use Rattle.evidence.proofs.Failing.{never_fails}
use Rattle.evidence.proofs.FirstWrong.{form_spells_nothing}
use Rattle.evidence.proofs.OneValue.{one_value}
use Rattle.hll_cli.specs.declared.answer.Status.{Status}
use Rattle.hll_cli.specs.declared.answer.Status.TheVariants as status
use Rattle.hll_cli.specs.declared.fault.Mistake.{Mistake}
use Rattle.hll_cli.specs.declared.fault.Mistake.TheVariants.{Stray, Unclosed, Number, Unexpected, Deep, Static}
use Rattle.hll_cli.specs.declared.fault.Refusal.{Refusal}
use Rattle.hll_cli.specs.declared.fault.Refusal.TheVariants.{Unread, Long, Misplaced, Unbuilt}
use Rattle.hll_cli.specs.Accepted.{IsSpelled, IsAccepted}
use Rattle.hll_cli.specs.Answers.{code_of, IsAnswer, IsStatus, IsReported, IsSummarized, IsDone, HasAnswer, Ends, Writes}
use Rattle.hll_cli.specs.Check.{IsDoubtful, HasEvidence}
use Rattle.hll_cli.specs.Faults.{status_of}
use Rattle.hll_cli.specs.Format.{HasModel}
use Rattle.hll_cli.specs.Lines.{refusal_line}
use Rattle.hll_cli.specs.Prove.{IsStaticallyFaulty, IsMistakeAt, IsTextRefusal, HasAcceptedModel}
use Rattle.hll_cli.specs.Reading.{DeskView, view_of, text_limit, IsReadWithin}
use Rattle.hll_cli.specs.Texts.{IsFirstMistake, IsMisspelled, IsUnanswered, IsRefused, HasText}

-- a list begins with its front, and goes on with what stands behind it
itself : (front rest : List Token) → Extends front rest (front ++ rest)
itself front [] = append-nil front
itself front (t ∷ rest) = (rest, refl)

no_mistake : (text : List ℕ) (m : HllModel) (mistake : Mistake) (at : ℕ) → IsSpelled text m → IsFirstMistake text mistake at → ⊥
no_mistake text m Stray at ok is = split_or_fault text ok.tokens (lexing.Stray at) ok.split is
no_mistake text m Unclosed at ok is = split_or_fault text ok.tokens (lexing.Unclosed at) ok.split is
no_mistake text m Number at ok is = split_or_fault text ok.tokens (lexing.Number at) ok.split is
no_mistake text m Unexpected at ok is =
    let same : ok.tokens ≡ is.2.front ++ is.2.rest = one_split text ok.tokens is.0 ok.split is.1 ∙ is.2.parts in
    is.2.refused (is.2.front ++ is.2.rest) m (itself is.2.front is.2.rest)
    (subst (λ (ts : List Token). Spells text ts m) same (within_spells 200 text ok.tokens m ok.spelled))
no_mistake text m Deep at ok is =
    let same : ok.tokens ≡ is.2.front ++ is.2.token ∷ is.2.rest = one_split text ok.tokens is.0 ok.split is.1 ∙ is.2.parts in
    is.2.refused (is.2.front ++ is.2.token ∷ is.2.rest) m (itself is.2.front (is.2.token ∷ is.2.rest))
    (subst (λ (ts : List Token). SpellsUnder (at_most_before (suc at) 200) text ts m) same (within_before 200 (suc at) text ok.tokens m ok.spelled))
no_mistake text m (Static why) at ok is = is

-- a text spells one model
one_reading : (text : List ℕ) (m n : HllModel) → IsSpelled text m → IsSpelled text n → m ≡ n
one_reading text m n is is' =
    let same : is.tokens ≡ is'.tokens = one_split text is.tokens is'.tokens is.split is'.split in
    one_model text is'.tokens m n (subst (λ (ts : List Token). Spells text ts m) same (within_spells 200 text is.tokens m is.spelled)) (within_spells 200 text is'.tokens n is'.spelled)

-- one without static faults has no first one
no_fault : (text : List ℕ) (m : HllModel) (why : StaticKind) (place : LineColumn) → IsAccepted text m → IsStaticallyFaulty text why place → ⊥
no_fault text m why place accepted is =
    let none : first_fault is.model ≡ None = ap first_fault (one_reading text is.model m is.spelled accepted.spelled) ∙ ap first_of accepted.well in
    cc (none, is.first)

-- nor is one that is accepted misplaced
rightly_placed : (text : List ℕ) (m : HllModel) (mistake : Mistake) (place : LineColumn) → IsAccepted text m → IsMistakeAt text mistake place → ⊥
rightly_placed text m Stray place accepted is = no_mistake text m Stray is.0 accepted.spelled is.1
rightly_placed text m Unclosed place accepted is = no_mistake text m Unclosed is.0 accepted.spelled is.1
rightly_placed text m Number place accepted is = no_mistake text m Number is.0 accepted.spelled is.1
rightly_placed text m Unexpected place accepted is = no_mistake text m Unexpected is.0 accepted.spelled is.1
rightly_placed text m Deep place accepted is = no_mistake text m Deep is.0 accepted.spelled is.1
rightly_placed text m (Static why) place accepted is = no_fault text m why place accepted is

-- a text that spells a model isn't refused by `format`
spelled_stays : (text : List ℕ) (refusal : Refusal) → HasModel text → IsMisspelled text refusal → ⊥
spelled_stays text Unread has is = is
spelled_stays text Long has is = is
spelled_stays text (Misplaced mistake place) has is = no_mistake text has.0 mistake is.0 has.1 is.1
spelled_stays text Unbuilt has is = is

-- one that is accepted isn't refused by `prove`
accepted_stays : (text : List ℕ) (refusal : Refusal) → HasAcceptedModel text → IsTextRefusal text refusal → ⊥
accepted_stays text Unread has is = is
accepted_stays text Long has is = is
accepted_stays text (Misplaced mistake place) has is = rightly_placed text has.0 mistake place has.1 is
accepted_stays text Unbuilt has is = is.unaccepted has.0 has.1

-- the bytes that are told of a file are one text
one_text : (files : Files) (name text other : List ℕ) → files name ≡ Some text → files name ≡ Some other → other ≡ text
one_text files name text other is is' = ap (or_nothing text) (sym is' ∙ is)
  where
    or_nothing : List ℕ → Option (List ℕ) → List ℕ
    or_nothing d None = d
    or_nothing d (Some x) = x

module _ (Refuses : List ℕ → Refusal → Type 0) (Holds : List ℕ → Type 0) (stays : (text : List ℕ) (refusal : Refusal) → Holds text → Refuses text refusal → ⊥) where
  -- a told file with a text that a command answers for is refused only where a read failed
  why : (files : Files) (view : DeskView) (name : List ℕ) (refusal : Refusal) → view.told ≡ Some files → HasText files name Holds → IsUnanswered Refuses view name refusal →
      Rose (view.faults_before name) (view.faults_now name)
  why files view name Unread told has is = is
  why files view name Long told has is =
      let file : IsSomeAnd (files name) (λ bytes. text_limit < length bytes) = subst (λ (t : Option Files). IfSome t (λ f. IsSomeAnd (f name) (λ bytes. text_limit < length bytes))) told is.file in
      let long : text_limit < length has.text = subst (λ (t : Option (List ℕ)). IsSomeAnd t (λ bytes. text_limit < length bytes)) has.file file in
      let short = has.short in
      absurd (omega arith)
  why files view name (Misplaced mistake place) told has is =
      let file : files name ≡ Some is.text = subst (λ (t : Option Files). IfSome t (λ f. f name ≡ Some is.text)) told is.read.file in
      absurd (stays has.text (Misplaced mistake place) has.holds (subst (λ (x : List ℕ). Refuses x (Misplaced mistake place)) (one_text files name has.text is.text has.file file) is.refused))
  why files view name Unbuilt told has is =
      let file : files name ≡ Some is.text = subst (λ (t : Option Files). IfSome t (λ f. f name ≡ Some is.text)) told is.read.file in
      absurd (stays has.text Unbuilt has.holds (subst (λ (x : List ℕ). Refuses x Unbuilt) (one_text files name has.text is.text has.file file) is.refused))

-- a text that is accepted gets its report, unless the model's file or the output fails, or memory runs out
decided : (files : Files) (view : DeskView) (name : List ℕ) (s : Status) (Failed : Type 0) → view.told ≡ Some files →
    HasAnswer (IsAnswer (Some (Prove name)) view) s → (s ≡ status.WriteFault → Failed) → HasText files name HasAcceptedModel →
    IsReported (code_of s) ⊎ Rose (view.faults_before name) (view.faults_now name) ⊎ Failed
decided files view name status.Done Failed told answered unwritten has = inl (inl refl)
decided files view name status.Falsified Failed told answered unwritten has = inl (inr (inl refl))
decided files view name status.Undecided Failed told answered unwritten has = absurd answered.1
decided files view name status.Refused Failed told answered unwritten has =
    inr (inl (why IsTextRefusal HasAcceptedModel accepted_stays files view name answered.1.refusal told has answered.1.cause))
decided files view name status.Usage Failed told answered unwritten has = absurd answered.1
decided files view name status.ReadFault Failed told answered unwritten has =
    inr (inl (why IsTextRefusal HasAcceptedModel accepted_stays files view name answered.1.refusal told has answered.1.cause))
decided files view name status.WriteFault Failed told answered unwritten has = inr (inr (unwritten refl))
decided files view name status.Memory Failed told answered unwritten has = inl (inr (inr refl))
decided files view name status.Unaccepted Failed told answered unwritten has = absurd answered.1

-- a text that spells a model is printed, unless the model's file or the output fails, or memory runs out
printed : (files : Files) (view : DeskView) (name : List ℕ) (s : Status) (Failed : Type 0) → view.told ≡ Some files →
    HasAnswer (IsAnswer (Some (Format name)) view) s → (s ≡ status.WriteFault → Failed) → HasText files name HasModel →
    IsDone (code_of s) ⊎ Rose (view.faults_before name) (view.faults_now name) ⊎ Failed
printed files view name status.Done Failed told answered unwritten has = inl (inl refl)
printed files view name status.Falsified Failed told answered unwritten has = absurd answered.1
printed files view name status.Undecided Failed told answered unwritten has = absurd answered.1
printed files view name status.Refused Failed told answered unwritten has =
    inr (inl (why IsMisspelled HasModel spelled_stays files view name answered.1.refusal told has answered.1.cause))
printed files view name status.Usage Failed told answered unwritten has = absurd answered.1
printed files view name status.ReadFault Failed told answered unwritten has =
    inr (inl (why IsMisspelled HasModel spelled_stays files view name answered.1.refusal told has answered.1.cause))
printed files view name status.WriteFault Failed told answered unwritten has = inr (inr (unwritten refl))
printed files view name status.Memory Failed told answered unwritten has = inl (inr refl)
printed files view name status.Unaccepted Failed told answered unwritten has = absurd answered.1

-- a told file with evidence that is accepted isn't refused
module _ (files : Files) (view : DeskView) (name : List ℕ) (told : view.told ≡ Some files) (has : HasEvidence files name) where
  its_bytes : (bytes : List ℕ) → IsReadWithin file_limit view name bytes → bytes ≡ has.bytes
  its_bytes bytes read = one_text files name has.bytes bytes has.file (subst (λ (t : Option Files). IfSome t (λ f. f name ≡ Some bytes)) told read.file)

  its_value : (bytes : List ℕ) (e : Evidence) → IsReadWithin file_limit view name bytes → IsTextOf bytes e → Accepted e
  its_value bytes e read text =
      subst Accepted (one_value has.bytes has.evidence e has.text (subst (λ (b : List ℕ). IsTextOf b e) (its_bytes bytes read) text)) has.accepted

  no_doubt : (fault : EvidenceFault) → IsDoubtful view name fault → ⊥
  no_doubt doubt.Failed is = is
  no_doubt doubt.Long is =
      let file : IsSomeAnd (files name) (λ bytes. file_limit < length bytes) = subst (λ (t : Option Files). IfSome t (λ f. IsSomeAnd (f name) (λ bytes. file_limit < length bytes))) told is.file in
      let long : file_limit < length has.bytes = subst (λ (t : Option (List ℕ)). IsSomeAnd t (λ bytes. file_limit < length bytes)) has.file file in
      let short = has.short in
      omega (arith, long, short)
  no_doubt (doubt.Form at) is =
      form_spells_nothing is.0 at has.evidence is.2 (subst (λ (b : List ℕ). IsTextOf b has.evidence) (sym (its_bytes is.0 is.1)) has.text)
  no_doubt (doubt.Refused at reason) is = never_fails is.2.0 at reason (its_value is.0 is.2.0 is.1 is.2.1) is.2.2.fails
  no_doubt doubt.Memory is = is

-- evidence that is accepted gets its summary, unless its file or the output fails, or memory runs out
summarized : (files : Files) (view : DeskView) (name : List ℕ) (s : Status) (Failed : Type 0) → view.told ≡ Some files →
    HasAnswer (IsAnswer (Some (Check name)) view) s → (s ≡ status.WriteFault → Failed) → HasEvidence files name →
    IsSummarized (code_of s) ⊎ Rose (view.faults_before name) (view.faults_now name) ⊎ Failed
summarized files view name status.Done Failed told answered unwritten has = inl (inl refl)
summarized files view name status.Falsified Failed told answered unwritten has = inl (inr (inl refl))
summarized files view name status.Undecided Failed told answered unwritten has = inl (inr (inr (inl refl)))
summarized files view name status.Refused Failed told answered unwritten has = absurd answered.1
summarized files view name status.Usage Failed told answered unwritten has = absurd answered.1
summarized files view name status.ReadFault Failed told answered unwritten has = inr (inl answered.1.0)
summarized files view name status.WriteFault Failed told answered unwritten has = inr (inr (unwritten refl))
summarized files view name status.Memory Failed told answered unwritten has = inl (inr (inr (inr refl)))
summarized files view name status.Unaccepted Failed told answered unwritten has = absurd (no_doubt files view name told has answered.1.doubt answered.1.cause)

-- ---- statuses by their numbers

-- the statuses of what is asked
status_asked : (view : DeskView) (request : Option Request) (s : Status) → HasAnswer (IsAnswer request view) s → IsStatus request (code_of s)
status_asked view None status.Done h = absurd h.1
status_asked view None status.Falsified h = absurd h.1
status_asked view None status.Undecided h = absurd h.1
status_asked view None status.Refused h = absurd h.1
status_asked view None status.Usage h = inl refl
status_asked view None status.ReadFault h = absurd h.1
status_asked view None status.WriteFault h = inr (inl refl)
status_asked view None status.Memory h = inr (inr refl)
status_asked view None status.Unaccepted h = absurd h.1
status_asked view (Some (Prove name)) status.Done h = inl refl
status_asked view (Some (Prove name)) status.Falsified h = inr (inl refl)
status_asked view (Some (Prove name)) status.Undecided h = absurd h.1
status_asked view (Some (Prove name)) status.Refused h = inr (inr (inl refl))
status_asked view (Some (Prove name)) status.Usage h = absurd h.1
status_asked view (Some (Prove name)) status.ReadFault h = inr (inr (inr (inl refl)))
status_asked view (Some (Prove name)) status.WriteFault h = inr (inr (inr (inr (inl refl))))
status_asked view (Some (Prove name)) status.Memory h = inr (inr (inr (inr (inr refl))))
status_asked view (Some (Prove name)) status.Unaccepted h = absurd h.1
status_asked view (Some (Check name)) status.Done h = inl refl
status_asked view (Some (Check name)) status.Falsified h = inr (inl refl)
status_asked view (Some (Check name)) status.Undecided h = inr (inr (inl refl))
status_asked view (Some (Check name)) status.Refused h = absurd h.1
status_asked view (Some (Check name)) status.Usage h = absurd h.1
status_asked view (Some (Check name)) status.ReadFault h = inr (inr (inr (inl refl)))
status_asked view (Some (Check name)) status.WriteFault h = inr (inr (inr (inr (inl refl))))
status_asked view (Some (Check name)) status.Memory h = inr (inr (inr (inr (inr (inl refl)))))
status_asked view (Some (Check name)) status.Unaccepted h = inr (inr (inr (inr (inr (inr refl)))))
status_asked view (Some (Format name)) status.Done h = inl refl
status_asked view (Some (Format name)) status.Falsified h = absurd h.1
status_asked view (Some (Format name)) status.Undecided h = absurd h.1
status_asked view (Some (Format name)) status.Refused h = inr (inl refl)
status_asked view (Some (Format name)) status.Usage h = absurd h.1
status_asked view (Some (Format name)) status.ReadFault h = inr (inr (inl refl))
status_asked view (Some (Format name)) status.WriteFault h = inr (inr (inr (inl refl)))
status_asked view (Some (Format name)) status.Memory h = inr (inr (inr (inr refl)))
status_asked view (Some (Format name)) status.Unaccepted h = absurd h.1

pub known : (view : DeskView) (request : Option Request) (s : Status) (code : ℕ) → code ≡ code_of s → HasAnswer (IsAnswer request view) s → IsStatus request code
known view request s code is h = subst (IsStatus request) (sym is) (status_asked view request s h)

-- 4 is no status of a command
none_asked : (request : Option Request) → IsStatus request 4 → request ≡ None
none_asked None h = refl
none_asked (Some (Prove name)) h = absurd (omega (arith, h))
none_asked (Some (Check name)) h = absurd (omega (arith, h))
none_asked (Some (Format name)) h = absurd (omega (arith, h))

pub words : (view : DeskView) (request : Option Request) (s : Status) (code : ℕ) → code ≡ code_of s → HasAnswer (IsAnswer request view) s → code ≡ 4 → request ≡ None
words view request s code is h four = none_asked request (subst (IsStatus request) four (known view request s code is h))

-- the status with a number
abbrev status_with : ℕ → Status
status_with n =
    if n == 0 then status.Done
    else if n == 1 then status.Falsified
    else if n == 2 then status.Undecided
    else if n == 3 then status.Refused
    else if n == 4 then status.Usage
    else if n == 5 then status.ReadFault
    else if n == 6 then status.WriteFault
    else if n == 7 then status.Memory
    else status.Unaccepted

with_its_number : (s : Status) → status_with (code_of s) ≡ s
with_its_number status.Done = refl
with_its_number status.Falsified = refl
with_its_number status.Undecided = refl
with_its_number status.Refused = refl
with_its_number status.Usage = refl
with_its_number status.ReadFault = refl
with_its_number status.WriteFault = refl
with_its_number status.Memory = refl
with_its_number status.Unaccepted = refl

-- statuses with one number are one
one_status : (s t : Status) → code_of s ≡ code_of t → s ≡ t
one_status s t is = sym (with_its_number s) ∙ ap status_with is ∙ with_its_number t

-- ---- the clauses of the top call

pub told_decided : (told : Option Files) (faults_before faults_now given_before given_now : Counts) (request : Option Request) (name : List ℕ) (s : Status) (code : ℕ) (Failed : Type 0) →
    request ≡ Some (Prove name) → code ≡ code_of s → HasAnswer (IsAnswer request (view_of told faults_before faults_now given_before given_now)) s → (s ≡ status.WriteFault → Failed) →
    IfSome told (λ files. HasText files name HasAcceptedModel → IsReported code ⊎ Rose (faults_before name) (faults_now name) ⊎ Failed)
told_decided None faults_before faults_now given_before given_now request name s code Failed asked is answered unwritten = tt
told_decided (Some files) faults_before faults_now given_before given_now request name s code Failed asked is answered unwritten = λ has.
    let view = view_of (Some files) faults_before faults_now given_before given_now in
    subst (λ n. IsReported n ⊎ Rose (faults_before name) (faults_now name) ⊎ Failed) (sym is)
    (decided files view name s Failed refl (subst (λ (r : Option Request). HasAnswer (IsAnswer r view) s) asked answered) unwritten has)

pub told_printed : (told : Option Files) (faults_before faults_now given_before given_now : Counts) (request : Option Request) (name : List ℕ) (s : Status) (code : ℕ) (Failed : Type 0) →
    request ≡ Some (Format name) → code ≡ code_of s → HasAnswer (IsAnswer request (view_of told faults_before faults_now given_before given_now)) s → (s ≡ status.WriteFault → Failed) →
    IfSome told (λ files. HasText files name HasModel → IsDone code ⊎ Rose (faults_before name) (faults_now name) ⊎ Failed)
told_printed None faults_before faults_now given_before given_now request name s code Failed asked is answered unwritten = tt
told_printed (Some files) faults_before faults_now given_before given_now request name s code Failed asked is answered unwritten = λ has.
    let view = view_of (Some files) faults_before faults_now given_before given_now in
    subst (λ n. IsDone n ⊎ Rose (faults_before name) (faults_now name) ⊎ Failed) (sym is)
    (printed files view name s Failed refl (subst (λ (r : Option Request). HasAnswer (IsAnswer r view) s) asked answered) unwritten has)

pub told_summarized : (told : Option Files) (faults_before faults_now given_before given_now : Counts) (request : Option Request) (name : List ℕ) (s : Status) (code : ℕ) (Failed : Type 0) →
    request ≡ Some (Check name) → code ≡ code_of s → HasAnswer (IsAnswer request (view_of told faults_before faults_now given_before given_now)) s → (s ≡ status.WriteFault → Failed) →
    IfSome told (λ files. HasEvidence files name → IsSummarized code ⊎ Rose (faults_before name) (faults_now name) ⊎ Failed)
told_summarized None faults_before faults_now given_before given_now request name s code Failed asked is answered unwritten = tt
told_summarized (Some files) faults_before faults_now given_before given_now request name s code Failed asked is answered unwritten = λ has.
    let view = view_of (Some files) faults_before faults_now given_before given_now in
    subst (λ n. IsSummarized n ⊎ Rose (faults_before name) (faults_now name) ⊎ Failed) (sym is)
    (summarized files view name s Failed refl (subst (λ (r : Option Request). HasAnswer (IsAnswer r view) s) asked answered) unwritten has)

-- what is written with a status of one that was asked for
at_status : (before now : Option (List ℕ)) (view : DeskView) (request : Option Request) (r : Request) (s t : Status) → request ≡ Some r → s ≡ t →
    Tells before now (Ends (IsAnswer request view) s) → Tells before now (Ends (IsAnswer (Some r) view) t)
at_status before now view request r s t asked is ends =
    subst (λ (u : Status). Tells before now (Ends (IsAnswer (Some r) view) u)) is
    (subst (λ (q : Option Request). Tells before now (Ends (IsAnswer q view) s)) asked ends)

pub told_at : (before now : Option (List ℕ)) (view : DeskView) (request : Option Request) (r : Request) (s t : Status) (code : ℕ) →
    request ≡ Some r → code ≡ code_of s → code ≡ code_of t → Tells before now (Ends (IsAnswer request view) s) → Tells before now (Ends (IsAnswer (Some r) view) t)
told_at before now view request r s t code asked is number ends = at_status before now view request r s t asked (one_status s t (sym is ∙ number)) ends

-- ---- a file that could not be read

unread_is : (refusal : Refusal) → status.ReadFault ≡ status_of refusal → refusal ≡ Unread
unread_is Unread is = refl
unread_is Long is = absurd (omega (arith, ap code_of is))
unread_is (Misplaced mistake place) is = absurd (omega (arith, ap code_of is))
unread_is Unbuilt is = absurd (omega (arith, ap code_of is))

unread_line : (Refuses : List ℕ → Refusal → Type 0) (view : DeskView) (name output : List ℕ) → IsRefused Refuses view name status.ReadFault output → output ≡ refusal_line name Unread
unread_line Refuses view name output is = is.line ∙ ap (refusal_line name) (unread_is is.refusal is.printed_with)

unread_rose : (Refuses : List ℕ → Refusal → Type 0) (view : DeskView) (name output : List ℕ) → IsRefused Refuses view name status.ReadFault output → Rose (view.faults_before name) (view.faults_now name)
unread_rose Refuses view name output is = subst (IsUnanswered Refuses view name) (unread_is is.refusal is.printed_with) is.cause

asked_line : (view : DeskView) (r : Request) (output : List ℕ) → IsAnswer (Some r) view status.ReadFault output → output ≡ refusal_line (file_of r) Unread
asked_line view (Prove name) output is = unread_line IsTextRefusal view name output is
asked_line view (Check name) output is = is.1
asked_line view (Format name) output is = unread_line IsMisspelled view name output is

asked_rose : (view : DeskView) (r : Request) (output : List ℕ) → IsAnswer (Some r) view status.ReadFault output → Rose (view.faults_before (file_of r)) (view.faults_now (file_of r))
asked_rose view (Prove name) output is = unread_rose IsTextRefusal view name output is
asked_rose view (Check name) output is = is.0
asked_rose view (Format name) output is = unread_rose IsMisspelled view name output is

writes_line : (view : DeskView) (r : Request) (before now : Option (List ℕ)) → Tells before now (Writes (IsAnswer (Some r) view status.ReadFault)) → Tells before now (Writes (λ output. output ≡ refusal_line (file_of r) Unread))
writes_line view r None now h = tt
writes_line view r (Some b) None h = h
writes_line view r (Some b) (Some a) h = (h.0, asked_line view r h.0 h.1, h.2)

pub told_unread : (before now : Option (List ℕ)) (view : DeskView) (request : Option Request) (r : Request) (s : Status) (code : ℕ) →
    request ≡ Some r → code ≡ code_of s → code ≡ 5 → Tells before now (Ends (IsAnswer request view) s) → Tells before now (Writes (λ output. output ≡ refusal_line (file_of r) Unread))
told_unread before now view request r s code asked is number ends =
    writes_line view r before now (at_status before now view request r s status.ReadFault asked (one_status s status.ReadFault (sym is ∙ number)) ends)

pub unread_cause : (view : DeskView) (request : Option Request) (r : Request) (s : Status) (code : ℕ) →
    request ≡ Some r → code ≡ code_of s → code ≡ 5 → HasAnswer (IsAnswer request view) s → Rose (view.faults_before (file_of r)) (view.faults_now (file_of r))
unread_cause view request r s code asked is number answered =
    let here : HasAnswer (IsAnswer (Some r) view) status.ReadFault = subst (λ (u : Status). HasAnswer (IsAnswer (Some r) view) u) (one_status s status.ReadFault (sym is ∙ number))
    (subst (λ (q : Option Request). HasAnswer (IsAnswer q view) s) asked answered) in
    asked_rose view r here.0 here.1
