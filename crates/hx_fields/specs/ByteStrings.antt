-- Which bytes a string of bytes has, wherever they are.
use Rattle.std.specs.Prelude.{ℕ, List}
use Rattle.hx_fields.specs.declared.byte_string.Kept.{Kept}
use Rattle.hx_fields.specs.declared.byte_string.Kept.TheVariants.{Short, Whole, Part}

-- those that stand in the value, those of its vector, or its part of a shared buffer
abbrev pub bytes_of_storage_form : Kept → List ℕ
bytes_of_storage_form (Short bytes) = bytes.items
bytes_of_storage_form (Whole bytes) = bytes.items
bytes_of_storage_form (Part part) = part
