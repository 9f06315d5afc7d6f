-- The files of a list by their names, after a change to the list.
use Rattle.std.proofs.Common.{◌≡◌, ◌≢◌, ℕ, ◌+◌, ◌-◌, ◌<◌, ◌≤◌, List, [], ◌∷◌, ◌++◌, length, get_or, set, Option, Some, None, Ok, Err, Bool, true, false, cond, IsSome, sym, ap, subst, ◌∙◌, refl, arith, vec_len, vec_capacity}
use Rattle.std.proofs.lemmas.List.{map-set, set-get_or}
use Rattle.std.specs.Prelude.{map}
use Rattle.std.specs.Option.{option_map, option_map_or}
use Rattle.std.specs.String.{string_bytes}
use Rattle.std.specs.Str.{bytes_eq}
use Rattle.std.specs.declared.vec.Vec.{Vec}
use Rattle.std.specs.declared.alloc.Global.{Global}
use Rattle.std.specs.declared.alloc.AllocError.{AllocError}
use Rattle.ports.specs.declared.file_text.FileText.{FileText}
use Rattle.ports.specs.Contents.{SameOtherFiles, content_of}
use Rattle.ports.specs.Named.{first_named, IsFirst}
use Rattle.ports.specs.DeskState.{NamedBytes, named, name_of, files_in, room_in}
use Rattle.ports.specs.DeskSteps.{Extends}
use Rattle.ports.proofs.NamedLemmas.{IsFirst-key, first_named-IsFirst, first_named-set_same, first_named-set_other, first_named-push_same, first_named-push_other}

-- what a look-up in the list as contracts see it finds
pub files_in_is : (files : List FileText) (name : List ℕ) → files_in files name ≡ option_map (λ f. f.bytes.items) (first_named name_of files name)
files_in_is [] name = refl
files_in_is (f ∷ fs) name = by_test (bytes_eq (string_bytes f.name) name) (files_in_is fs name) where
  by_test : (t : Bool) → files_in fs name ≡ option_map (λ g. g.bytes.items) (first_named name_of fs name) → option_map (λ g. g.bytes) (cond t (Some (named f)) (first_named (λ g. g.name) (map named fs) name)) ≡ option_map (λ g. g.bytes.items) (cond t (Some f) (first_named name_of fs name))
  by_test true rest = refl
  by_test false rest = rest

-- a file that is found
pub files_in-IsFirst : (files : List FileText) (name : List ℕ) (i : ℕ) (d : FileText) → IsFirst name_of files name i → files_in files name ≡ Some (get_or files i d).bytes.items
files_in-IsFirst files name i d h = files_in_is files name ∙ ap (option_map (λ f. f.bytes.items)) (first_named-IsFirst name_of files name i d h)

pub room_in-IsFirst : (files : List FileText) (name : List ℕ) (i : ℕ) (d : FileText) → IsFirst name_of files name i → room_in files name ≡ vec_capacity (get_or files i d).bytes - vec_len (get_or files i d).bytes
room_in-IsFirst files name i d h = ap (λ o. option_map_or (λ f. vec_capacity f.bytes - vec_len f.bytes) o 0) (first_named-IsFirst name_of files name i d h)

-- a file that is not
pub files_in-none : (files : List FileText) (name : List ℕ) → first_named name_of files name ≡ None → files_in files name ≡ None
files_in-none files name h = files_in_is files name ∙ ap (option_map (λ f. f.bytes.items)) h

pub room_in-none : (files : List FileText) (name : List ℕ) → first_named name_of files name ≡ None → room_in files name ≡ 0
room_in-none files name h = ap (λ o. option_map_or (λ f. vec_capacity f.bytes - vec_len f.bytes) o 0) h

-- after a write of a file of the same name
module _ (files : List FileText) (name : List ℕ) (i : ℕ) (w : FileText) (here : IsFirst name_of files name i) (same : string_bytes w.name ≡ name) where
  pub files_in-set : files_in (set files i w) name ≡ Some w.bytes.items
  files_in-set = files_in_is (set files i w) name ∙ ap (option_map (λ f. f.bytes.items)) (first_named-set_same name_of files name i w here same)

  pub files_in-set_others : SameOtherFiles name (files_in files) (files_in (set files i w))
  files_in-set_others other differs =
      files_in_is (set files i w) other ∙ ap (option_map (λ f. f.bytes.items)) (first_named-set_other name_of files name other i w here same differs) ∙ sym (files_in_is files other)

  pub room_in-set : room_in (set files i w) name ≡ vec_capacity w.bytes - vec_len w.bytes
  room_in-set = ap (λ o. option_map_or (λ f. vec_capacity f.bytes - vec_len f.bytes) o 0) (first_named-set_same name_of files name i w here same)

  pub room_in-set_others : (other : List ℕ) → other ≢ name → room_in (set files i w) other ≡ room_in files other
  room_in-set_others other differs = ap (λ o. option_map_or (λ f. vec_capacity f.bytes - vec_len f.bytes) o 0) (first_named-set_other name_of files name other i w here same differs)

-- after a new file at the end
module _ (files : List FileText) (name : List ℕ) (w : FileText) (new : first_named name_of files name ≡ None) (same : string_bytes w.name ≡ name) where
  pub files_in-push : files_in (files ++ w ∷ []) name ≡ Some w.bytes.items
  files_in-push = files_in_is (files ++ w ∷ []) name ∙ ap (option_map (λ f. f.bytes.items)) (first_named-push_same name_of files name w new same)

  pub files_in-push_others : SameOtherFiles name (files_in files) (files_in (files ++ w ∷ []))
  files_in-push_others other differs =
      files_in_is (files ++ w ∷ []) other ∙ ap (option_map (λ f. f.bytes.items)) (first_named-push_other name_of files other w (λ q. differs (sym q ∙ same))) ∙ sym (files_in_is files other)

  pub room_in-push_others : (other : List ℕ) → other ≢ name → room_in (files ++ w ∷ []) other ≡ room_in files other
  room_in-push_others other differs = ap (λ o. option_map_or (λ f. vec_capacity f.bytes - vec_len f.bytes) o 0) (first_named-push_other name_of files other w (λ q. differs (sym q ∙ same)))

-- a write of a file that contracts see as the old one
pub named-set : (files : List FileText) (i : ℕ) (w d : FileText) → named w ≡ named (get_or files i d) → map named (set files i w) ≡ map named files
named-set files i w d same = map-set named files i w ∙ ap (set (map named files) i) same ∙ sym (map-set named files i (get_or files i d)) ∙ ap (map named) (set-get_or files i d)

-- an entry of the list that the look-up found
pub record Found (files : List FileText) (name : List ℕ) (place : ℕ) (f : FileText) : Type 0 where
  pub here : IsFirst name_of files name place
  pub is : f ≡ get_or files place f
  pub same : string_bytes f.name ≡ name

-- what the look-up in a slice of the list and the read of its entry say
pub found : (files seen : List FileText) (name : List ℕ) (place : ℕ) (f : FileText) → seen ≡ files → IsFirst name_of seen name place → f ≡ get_or files place f → Found files name place f
found files seen name place f same first is =
    let here : IsFirst name_of files name place = subst (λ fs. IsFirst name_of fs name place) same first in
    record { here = here; is = is; same = ap name_of is ∙ IsFirst-key name_of files name place f here }

-- the file with other bytes
abbrev pub with_bytes : FileText → Vec ℕ Global → FileText
with_bytes f bytes = record { name = f.name; bytes = bytes }

module _ (files : List FileText) (name : List ℕ) (place : ℕ) (f : FileText) (at : Found files name place f) where
  pub files_in-found : files_in files name ≡ Some f.bytes.items
  files_in-found = files_in-IsFirst files name place f at.here ∙ ap (λ g. Some g.bytes.items) (sym at.is)

  pub room_in-found : room_in files name ≡ vec_capacity f.bytes - vec_len f.bytes
  room_in-found = room_in-IsFirst files name place f at.here ∙ ap (λ g. vec_capacity g.bytes - vec_len g.bytes) (sym at.is)

  pub Extends-found_ok : (bytes : Vec ℕ Global) (piece : List ℕ) → bytes.items ≡ f.bytes.items ++ piece → vec_len bytes ≡ vec_len f.bytes + length piece → vec_capacity f.bytes ≤ vec_capacity bytes → Extends files (set files place (with_bytes f bytes)) name piece (Ok tt)
  Extends-found_ok bytes piece items len capacity = record {
    others = files_in-set_others files name place (with_bytes f bytes) at.here at.same;
    other_room = room_in-set_others files name place (with_bytes f bytes) at.here at.same;
    stored = files_in-set files name place (with_bytes f bytes) at.here at.same ∙ ap (λ b. Some b) items ∙ ap (λ o. Some (content_of o ++ piece)) (sym files_in-found);
    room = omega (arith, room_in-found, room_in-set files name place (with_bytes f bytes) at.here at.same, len, capacity);
    fits = λ _ _. refl;
  }

  pub Extends-found_err : (bytes : Vec ℕ Global) (piece : List ℕ) (e : AllocError) → bytes.items ≡ f.bytes.items → vec_len bytes ≡ vec_len f.bytes → vec_capacity f.bytes ≤ vec_capacity bytes → vec_capacity f.bytes < vec_len f.bytes + length piece → Extends files (set files place (with_bytes f bytes)) name piece (Err e)
  Extends-found_err bytes piece e items len capacity full = record {
    others = files_in-set_others files name place (with_bytes f bytes) at.here at.same;
    other_room = room_in-set_others files name place (with_bytes f bytes) at.here at.same;
    stored = files_in-set files name place (with_bytes f bytes) at.here at.same ∙ ap (λ b. Some b) items ∙ sym files_in-found;
    room = omega (arith, room_in-found, room_in-set files name place (with_bytes f bytes) at.here at.same, len, capacity);
    fits = λ _ short. absurd (omega (arith, room_in-found, full, short, f.bytes.ok.1));
  }

module _ (files : List FileText) (name piece : List ℕ) (new : first_named name_of files name ≡ None) where
  pub Extends-none_ok : (w : FileText) → string_bytes w.name ≡ name → w.bytes.items ≡ piece → Extends files (files ++ w ∷ []) name piece (Ok tt)
  Extends-none_ok w same items = record {
    others = files_in-push_others files name w new same;
    other_room = room_in-push_others files name w new same;
    stored = files_in-push files name w new same ∙ ap (λ b. Some b) items ∙ ap (λ o. Some (content_of o ++ piece)) (sym (files_in-none files name new));
    room = omega (arith, room_in-none files name new);
    fits = λ _ _. refl;
  }

  pub Extends-none_err : (e : AllocError) → Extends files files name piece (Err e)
  Extends-none_err e = record {
    others = λ _ _. refl;
    other_room = λ _ _. refl;
    stored = refl;
    room = omega arith;
    fits = λ there _. absurd (not_there (files_in files name) (files_in-none files name new) there);
  } where
    not_there : (o : Option (List ℕ)) → o ≡ None → IsSome o → ⊥
    not_there None e there = cc
    not_there (Some b) e there = cc

abbrev named_by : List ℕ → List ℕ → NamedBytes
named_by name bytes = record { name = name; bytes = bytes }

-- a file with equal bytes is the same to contracts
pub named-with_bytes : (f : FileText) (bytes : Vec ℕ Global) → bytes.items ≡ f.bytes.items → named (with_bytes f bytes) ≡ named f
named-with_bytes f bytes same = ap (named_by (string_bytes f.name)) same
