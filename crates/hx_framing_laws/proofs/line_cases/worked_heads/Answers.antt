use Rattle.std.proofs.Common.{[], ◌∷◌, arith, refl, inl, inr, Some}
use Rattle.std.specs.Prelude.{codes}
use Rattle.std.proofs.lemmas.List.Elements.{All-nil, All-cons}
use Rattle.hx_framing_laws.specs.Examples.{field_of_name_and_value}
use Rattle.hx_framing_laws.specs.Lines.{IsLineEnd, IsRequestLine}
use Rattle.hx_framing_laws.proofs.WorkedLines.{spelled, utf8}
use Rattle.hx_framing_laws.proofs.line_cases.worked_heads.Goals as goal

line_is : IsRequestLine (codes "GET /where?q=now HTTP/1.1") (codes "GET") (codes "/where?q=now") 1
line_is = record {
  parts = refl;
  method_is = refl;
  target_is = record { some = refl; characters = refl; text = utf8 (codes "/where?q=now") refl };
  version_is = omega arith;
}

pub returns-clause-request : goal.returns-clause-request
returns-clause-request c = record {
  line = codes "GET /where?q=now HTTP/1.1";
  line_is = line_is;
  head_is = record {
    front = [];
    end = codes "\r\n";
    lines = codes "Host: www.example.com\r\n";
    last = codes "\r\n";
    parts = refl;
    front_is = record { ends = []; each = All-nil IsLineEnd; parts = refl };
    end_is = inl refl;
    lines_are = (
      codes "Host: www.example.com",
      codes "\r\n",
      [],
      refl,
      spelled (field_of_name_and_value (codes "Host") (codes "www.example.com")) (codes " ") [] refl refl (record { starts = refl; ends = refl }) refl refl,
      inl refl,
      refl,
    );
    last_is = inl refl;
  };
}

pub returns-clause-otherwise : goal.returns-clause-otherwise
returns-clause-otherwise c = record {
  line = codes "GET /where?q=now HTTP/1.1";
  line_is = line_is;
  head_is = record {
    front = codes "\r\n\n";
    end = codes "\n";
    lines = codes "Host:\twww.example.com \r\n";
    last = codes "\n";
    parts = refl;
    front_is = record {
      ends = codes "\r\n" ∷ codes "\n" ∷ [];
      each = All-cons IsLineEnd (codes "\r\n") (codes "\n" ∷ []) (inl refl) (All-cons IsLineEnd (codes "\n") [] (inr refl) (All-nil IsLineEnd));
      parts = refl;
    };
    end_is = inr refl;
    lines_are = (
      codes "Host:\twww.example.com ",
      codes "\r\n",
      [],
      refl,
      spelled (field_of_name_and_value (codes "Host") (codes "www.example.com")) (codes "\t") (codes " ") refl refl (record { starts = refl; ends = refl }) refl refl,
      inl refl,
      refl,
    );
    last_is = inr refl;
  };
}

pub returns-clause-response : goal.returns-clause-response
returns-clause-response c = record {
  line = codes "HTTP/1.0 200 OK";
  line_is = record { digits = codes "200"; reason = Some (codes "OK"); parts = refl; three = refl; digits_are = refl; status_is = refl; reason_is = refl; minor_is = omega arith };
  head_is = record {
    front = [];
    end = codes "\r\n";
    lines = codes "Content-Length: 5\r\nX-Empty: \r\n";
    last = codes "\r\n";
    parts = refl;
    front_is = record { ends = []; each = All-nil IsLineEnd; parts = refl };
    end_is = inl refl;
    lines_are = (
      codes "Content-Length: 5",
      codes "\r\n",
      codes "X-Empty: \r\n",
      refl,
      spelled (field_of_name_and_value (codes "Content-Length") (codes "5")) (codes " ") [] refl refl (record { starts = refl; ends = refl }) refl refl,
      inl refl,
      (codes "X-Empty: ", codes "\r\n", [], refl, spelled (field_of_name_and_value (codes "X-Empty") []) (codes " ") [] refl refl (record { starts = refl; ends = refl }) refl refl, inl refl, refl),
    );
    last_is = inl refl;
  };
}
