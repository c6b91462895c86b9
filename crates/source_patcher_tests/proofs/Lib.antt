mod OrderLaws
