-- A document of SARIF: what is written of things that are handed on.
use Rattle.std.specs.Prelude.{◌≡◌, ℕ, Bool, List, [], ◌∷◌, ◌++◌, Option, None, Some}
use Rattle.std.specs.List.{flat_map}
use Rattle.t1_forms.specs.Sarif.{after_telling, closing, sarif_state, telling_text}
use Rattle.t1_forms.specs.SarifDocuments.{tellings_text}
use Rattle.t1_forms.specs.Tellings.{ToldValue, what_spelled}
use Rattle.t1_forms.specs.declared.sarif.Sarif.{Sarif}
use Rattle.t1_io.specs.Devices.{SinkState}
use Rattle.t1_many.specs.Handing.{Handed, done, failure, line}
use Rattle.t1_many.specs.Plain.{ArePrinted, IsLinePut, tellings}
use Rattle.t1_many.specs.declared.policy.Lost.{Lost}
use Rattle.t1_printers.specs.Formatting.{Formatting, Output, told_fault}
use Rattle.t1_printers.specs.Streams.{IsKept, failure_value}

-- What a document has of what is reported was put, and is kept.
abbrev pub telling_written : Output Sarif → Output Sarif → ToldValue → Option Lost → Type 0
telling_written old new told lost =
    IsLinePut old.out new.out (telling_text (sarif_state old.formatter) told (what_spelled told.what)) lost
    × IsKept (sarif_state new.formatter) (after_telling (sarif_state old.formatter) told (what_spelled told.what)) lost

-- What ends it was put.
abbrev pub end_written : Sarif → SinkState → SinkState → Option Lost → Type 0
end_written document old new lost = IsLinePut old new (closing (sarif_state document)) lost

-- What is reported of a thing that is handed on; how a font was found is reported of none.
abbrev pub values_of : Bool → Handed → List ToldValue
values_of reasons (line name font waivers fault) = told_fault reasons name font waivers fault ∷ []
values_of reasons (failure name reason) = failure_value name reason ∷ []
values_of reasons (done name found) = []

abbrev pub all_values : Bool → List Handed → List ToldValue
all_values reasons handed = flat_map (values_of reasons) handed

-- What was written of all of these, and then what ends the document, is the text of what they report; and each was reported as in the plain
-- form. Or a prefix of it was, since memory ran out or a device failed.
abbrev pub IsDocumentOf : Bool → Formatting Sarif → Formatting Sarif → List Handed → Option Lost → Type 0
IsDocumentOf reasons old new handed None =
    (text : List ℕ) × (text ++ closing (sarif_state new.formatter) ≡ tellings_text (sarif_state old.formatter) (all_values reasons handed))
    × ArePrinted old.sinks new.sinks text (tellings handed) None
IsDocumentOf reasons old new handed (Some lost) =
    ArePrinted old.sinks new.sinks (tellings_text (sarif_state old.formatter) (all_values reasons handed)) (tellings handed) (Some lost)
