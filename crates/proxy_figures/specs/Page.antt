-- Prometheus' text format: what a family begins with, and a sample. Names, help texts and labels stand as they are.
use Rattle.std.specs.Prelude.{ℕ, List, ◌++◌, codes}
use Rattle.proxy_figures.specs.declared.page.Kind.{Kind}
use Rattle.proxy_figures.specs.declared.page.Kind.TheVariants.{Counter, Gauge, Histogram}

abbrev pub metric_kind_text : Kind → List ℕ
metric_kind_text Counter = codes "counter"
metric_kind_text Gauge = codes "gauge"
metric_kind_text Histogram = codes "histogram"

-- its help and its type
abbrev pub metric_family_header_text : List ℕ → Kind → List ℕ → List ℕ
metric_family_header_text name kind help =
    codes "# HELP " ++ name ++ codes " " ++ help ++ codes "\n# TYPE " ++ name ++ codes " " ++ metric_kind_text kind
    ++ codes "\n"

abbrev pub metric_label_text : List ℕ → List ℕ → List ℕ
metric_label_text key label = key ++ codes "=\"" ++ label ++ codes "\""

-- the name of a sample, and the label of its program
abbrev pub metric_sample_start_text : List ℕ → List ℕ → List ℕ
metric_sample_start_text listen name = name ++ codes "{" ++ metric_label_text (codes "listen") listen

abbrev pub further_label_text : List ℕ → List ℕ → List ℕ
further_label_text key label = codes "," ++ metric_label_text key label

-- the value, and the end of a sample
abbrev pub metric_sample_end_text : List ℕ → List ℕ
metric_sample_end_text value = codes "} " ++ value ++ codes "\n"

abbrev pub metric_sample_text : List ℕ → List ℕ → List ℕ → List ℕ
metric_sample_text listen name value = metric_sample_start_text listen name ++ metric_sample_end_text value

-- with a label of its own, and with two
abbrev pub sample_with_label_text : List ℕ → List ℕ → List ℕ → List ℕ → List ℕ → List ℕ
sample_with_label_text listen name key label value = metric_sample_start_text listen name
    ++ further_label_text key label
    ++ metric_sample_end_text value

abbrev pub sample_with_two_labels_text : List ℕ → List ℕ → List ℕ → List ℕ → List ℕ → List ℕ → List ℕ → List ℕ
sample_with_two_labels_text listen name key label other_key other_label value =
    metric_sample_start_text listen name ++ further_label_text key label ++ further_label_text other_key other_label
    ++ metric_sample_end_text value
