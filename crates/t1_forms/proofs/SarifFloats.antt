-- No object in a document of SARIF has a float in it.
use Rattle.std.proofs.Common.{◌≡◌, ℕ, List, [], ◌∷◌, ◌++◌, Option, Some, None, false, codes, decimal, map, refl}
use Rattle.serde_json.specs.View.{items_of}
use Rattle.serde_json.specs.Written.{has_float, items_have_float}
use Rattle.t1_lines.specs.Lines.{LineValue, PlaceValue, at_key, at_step, at_waiver, of_fault, of_refusal}
use Rattle.t1_forms.specs.PageValues.{PageValue, PagesValue}
use Rattle.t1_forms.specs.Tellings.{ReasonValue}
use Rattle.t1_forms.specs.SarifObjects.{fault_locations, logical_location, logical_locations, notification_object, page_object, result_object, tool_object}

pages_have_none : (docs : Option (List ℕ)) (ps : List PageValue) → items_have_float (items_of (map (page_object docs) ps)) ≡ false
pages_have_none docs [] = refl
pages_have_none None (page ∷ ps) = pages_have_none None ps
pages_have_none (Some docs) (page ∷ ps) = pages_have_none (Some docs) ps

pub tools_have_none : (pages : PagesValue) → has_float (tool_object pages) ≡ false
tools_have_none pages = rw (pages_have_none pages.docs pages.list) refl

subrs_have_none : (path : List ℕ) (step : ℕ)
    → items_have_float (items_of (map (λ subr. logical_location (codes "subr") (decimal subr)) path ++ logical_location (codes "step") (decimal step) ∷ [])) ≡ false
subrs_have_none [] step = refl
subrs_have_none (subr ∷ path) step = subrs_have_none path step

places_have_none : (place : PlaceValue) → items_have_float (items_of (logical_locations place)) ≡ false
places_have_none (at_key key index) = refl
places_have_none (at_step name path step) = subrs_have_none path step
places_have_none (at_waiver name waived) = refl

faults_have_none : (font : Option (List ℕ)) (place : PlaceValue) → has_float (fault_locations font place) ≡ false
faults_have_none None place = rw (places_have_none place) refl
faults_have_none (Some font) place = rw (places_have_none place) refl

pub results_have_none : (pages : List PageValue) (font : Option (List ℕ)) (l : LineValue) (line : List ℕ) (reason : Option ReasonValue)
    → (print : List ℕ) → has_float (result_object pages font l line reason print) ≡ false
results_have_none pages font (of_fault l) line reason print = rw (faults_have_none font l.place) refl
results_have_none pages None (of_refusal code) line reason print = refl
results_have_none pages (Some font) (of_refusal code) line reason print = refl

pub notifications_have_none : (font : Option (List ℕ)) (line : List ℕ) → has_float (notification_object font line) ≡ false
notifications_have_none None line = refl
notifications_have_none (Some font) line = refl
